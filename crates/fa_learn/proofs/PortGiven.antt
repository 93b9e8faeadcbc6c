-- What the box edges below some slots give to a root: by their leaves, where references are moved, and by signatures.
use Rattle.std.proofs.Common.{◌≡◌, ℕ, zero, suc, Bool, true, false, cond, nat_eq, List, [], ◌∷◌, ◌++◌, flat_map}
use Rattle.std.proofs.Common.{Some, slice_get, refl, sym, ap, ap₂, subst, ◌∙◌, append-nil}
use Rattle.std.proofs.lemmas.Option.{none-some, same_Some}
use Rattle.fore_base.specs.Lists.{Every}
use Rattle.fore_base.proofs.ListLemmas.{every_parts}
use Rattle.ta_core.specs.declared.tree.Tree.{Tree}
use Rattle.fa_core.specs.declared.faces.BoxFace.{BoxFace}
use Rattle.fa_core.specs.declared.forest.Target.{Target}
use Rattle.fa_core.specs.declared.forest.Target.TheVariants.{Null, Uninit, Dangling, At}
use Rattle.fa_core.specs.declared.signature.RefMark.{RefMark}
use Rattle.fa_core.specs.Cells.{mark_of}
use Rattle.fa_core.specs.Choices.{bares}
use Rattle.fa_core.specs.Dressed.{Node, Parts, End, Nodes, node, no_parts, field, link, hook, under, leaf, no_nodes, more}
use Rattle.fa_core.specs.Dressed.{refs, refs_of, end_refs, leaf_refs}
use Rattle.fa_core.specs.Member.{bare, bare_end, leaf_symbol}
use Rattle.fa_core.specs.Placed.{placed, placed_end, placed_leaf, placed_parts}
use Rattle.fa_core.specs.Rearranged.{Rearranged, chain}
use Rattle.fa_core.specs.Ways.{Way, ways, given, gives_out_of, signature, to_root}
use Rattle.fa_core.proofs.Given.{all_tips, end_tips, tip_to, tips, tips_of}
use Rattle.fa_core.proofs.GivenTips.{given_tips}
use Rattle.fa_core.proofs.Rearranging.{back, equal, flat_map-append}
use Rattle.fa_core.proofs.WaysOf.{rolled_ways}
use Rattle.fa_back.specs.Reached.{node_at}
use Rattle.fa_sound.specs.inner.Owned.{fields_of_mark}
use Rattle.fa_sound.proofs.Given.{given_tree}
use Rattle.fa_learn.proofs.Contained.{IsContained, contained_first, contained_later, contained_same}

module _ (bs : List BoxFace) where
  -- Where references are moved so that those to r, and no others, are now to k.
  module _ (f : ℕ → ℕ) (r k : ℕ) (same : (n : ℕ) → nat_eq k (f n) ≡ nat_eq r n) where
    abbrev φ : ℕ → Target
    φ = λ n. At (f n)

    tip_moved : (t : Target) (g : List ℕ) → tip_to k (placed_leaf φ t, g) ≡ tip_to r (t, g)
    tip_moved Null g = refl
    tip_moved Uninit g = refl
    tip_moved Dangling g = refl
    tip_moved (At n) g = ap (λ (b : Bool). cond b g []) (same n)

    mutual
      node_moved : (n : Node) → flat_map (tip_to k) (tips bs (placed φ n)) ≡ flat_map (tip_to r) (tips bs n)
      node_moved (node c s ds ps) = parts_moved ps

      pub parts_moved : (ps : Parts) → flat_map (tip_to k) (tips_of bs (placed_parts φ ps))
          ≡ flat_map (tip_to r) (tips_of bs ps)
      parts_moved no_parts = refl
      parts_moved (field g e ps) =
          flat_map-append (tip_to k) (end_tips bs [] (placed_end φ e)) (tips_of bs (placed_parts φ ps))
          ∙ ap₂ (λ (x y : List ℕ). x ++ y) (end_moved [] e) (parts_moved ps)
          ∙ sym (flat_map-append (tip_to r) (end_tips bs [] e) (tips_of bs ps))
      parts_moved (link b i e ps) =
          flat_map-append (tip_to k) (end_tips bs (gives_out_of bs b) (placed_end φ e)) (tips_of bs (placed_parts φ ps))
          ∙ ap₂ (λ (x y : List ℕ). x ++ y) (end_moved (gives_out_of bs b) e) (parts_moved ps)
          ∙ sym (flat_map-append (tip_to r) (end_tips bs (gives_out_of bs b) e) (tips_of bs ps))
      parts_moved (hook b i ps) = parts_moved ps

      end_moved : (g : List ℕ) (e : End) → flat_map (tip_to k) (end_tips bs g (placed_end φ e))
          ≡ flat_map (tip_to r) (end_tips bs g e)
      end_moved g (under n) = node_moved n
      end_moved g (leaf t) = ap (λ (z : List ℕ). z ++ []) (tip_moved t g)

  module _ (r : ℕ) where
    -- what refers to other roots gives nothing to this one
    abbrev pub IsFar : ℕ → Type 0
    IsFar n = nat_eq r n ≡ false

    far_tip : (t : Target) (g : List ℕ) → Every IsFar (leaf_refs t) → tip_to r (t, g) ≡ []
    far_tip Null g h = refl
    far_tip Uninit g h = refl
    far_tip Dangling g h = refl
    far_tip (At n) g h = ap (λ (b : Bool). cond b g []) h.0

    mutual
      far_node : (n : Node) → Every IsFar (refs n) → flat_map (tip_to r) (tips bs n) ≡ []
      far_node (node c s ds ps) h = far_parts ps h

      pub far_parts : (ps : Parts) → Every IsFar (refs_of ps) → flat_map (tip_to r) (tips_of bs ps) ≡ []
      far_parts no_parts h = refl
      far_parts (field g e ps) h =
          let k = every_parts IsFar (end_refs e) (refs_of ps) h in
          flat_map-append (tip_to r) (end_tips bs [] e) (tips_of bs ps)
          ∙ ap₂ (λ (x y : List ℕ). x ++ y) (far_end [] e k.0) (far_parts ps k.1)
      far_parts (link b i e ps) h =
          let k = every_parts IsFar (end_refs e) (refs_of ps) h in
          flat_map-append (tip_to r) (end_tips bs (gives_out_of bs b) e) (tips_of bs ps)
          ∙ ap₂ (λ (x y : List ℕ). x ++ y) (far_end (gives_out_of bs b) e k.0) (far_parts ps k.1)
      far_parts (hook b i ps) h = far_parts ps h

      far_end : (g : List ℕ) (e : End) → Every IsFar (end_refs e) → flat_map (tip_to r) (end_tips bs g e) ≡ []
      far_end g (under n) h = far_node n h
      far_end g (leaf t) h = append-nil (tip_to r (t, g)) ∙ far_tip t g h

    -- what one tree gives is contained in what all give
    pub given_in_all : (d : Nodes) (k : ℕ) (n : Node) → node_at d k ≡ Some n
        → IsContained (flat_map (tip_to r) (tips bs n)) (flat_map (tip_to r) (all_tips bs d))
    given_in_all no_nodes k n e = absurd (none-some n e)
    given_in_all (more m ms) zero n e =
        rw (flat_map-append (tip_to r) (tips bs m) (all_tips bs ms))
        (contained_first (flat_map (tip_to r) (all_tips bs ms)) (flat_map (tip_to r) (tips bs n))
        (flat_map (tip_to r) (tips bs m))
        (subst (λ (x : Node). IsContained (flat_map (tip_to r) (tips bs n)) (flat_map (tip_to r) (tips bs x)))
        (sym (same_Some m n e)) (contained_same (flat_map (tip_to r) (tips bs n)))))
    given_in_all (more m ms) (suc k) n e =
        rw (flat_map-append (tip_to r) (tips bs m) (all_tips bs ms))
        (contained_later (flat_map (tip_to r) (tips bs m)) (flat_map (tip_to r) (tips bs n))
        (flat_map (tip_to r) (all_tips bs ms)) (given_in_all ms k n e))

    -- what a tree gives follows from its signature
    abbrev by_ways : Tree → List ℕ
    by_ways t = flat_map (λ (w : Way). given bs w.steps) (to_root r (ways t))

    node_given : (n : Node) → by_ways (bare n) ≡ flat_map (tip_to r) (tips bs n)
    node_given n =
        sym (append-nil (by_ways (bare n))) ∙ given_tips bs r (more n no_nodes)
        ∙ ap (flat_map (tip_to r)) (append-nil (tips bs n))

    pub end_given : (e : End) → by_ways (bare_end e) ≡ flat_map (tip_to r) (end_tips bs [] e)
    end_given (under n) = node_given n
    end_given (leaf Null) = rw (rolled_ways (record { symbol = leaf_symbol Null; children = [] })) refl
    end_given (leaf Uninit) = rw (rolled_ways (record { symbol = leaf_symbol Uninit; children = [] })) refl
    end_given (leaf Dangling) = rw (rolled_ways (record { symbol = leaf_symbol Dangling; children = [] })) refl
    end_given (leaf (At k)) =
        rw (rolled_ways (record { symbol = leaf_symbol (At k); children = [] })) (here (nat_eq r k))
      where
        here : (b : Bool) → flat_map (λ (w : Way). given bs w.steps) (cond b (record { root = k; steps = [] } ∷ []) [])
            ≡ cond b [] [] ++ []
        here true = refl
        here false = refl

    pub given_by_signs : (e u : End) → signature bs (bare_end e) ≡ signature bs (bare_end u)
        → Rearranged (flat_map (tip_to r) (end_tips bs [] e)) (flat_map (tip_to r) (end_tips bs [] u))
    given_by_signs e u h =
        chain (equal (sym (end_given e))) (chain (given_tree bs (bare_end e) r)
        (chain (equal (ap (λ (ms : List RefMark). fields_of_mark (mark_of r ms)) h))
        (chain (back (given_tree bs (bare_end u) r)) (equal (end_given u)))))

-- the dressed tree at a place
pub node_there : (d : Nodes) (k : ℕ) (t : Tree) → slice_get (bares d) k ≡ Some t
    → (n : Node) × (node_at d k ≡ Some n) × (bare n ≡ t)
node_there no_nodes k t e = absurd (none-some t e)
node_there (more m ms) zero t e = (m, refl, same_Some (bare m) t e)
node_there (more m ms) (suc k) t e = node_there ms k t e
