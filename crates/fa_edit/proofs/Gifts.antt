-- What box edges of a tree give to a root.
use Rattle.std.proofs.Common.{◌≡◌, ℕ, suc, ◌<◌, Bool, true, false, cond, nat_eq, if◌then◌else◌, length, List, []}
use Rattle.std.proofs.Common.{◌∷◌, ◌++◌, map, flat_map, Some, append-nil, refl, sym, ap, ap₂, subst, ◌∙◌, arith}
use Rattle.std.proofs.lemmas.Bool.{eqb-true}
use Rattle.std.proofs.lemmas.Option.{same_Some}
use Rattle.ta_core.specs.Auto.{Automaton}
use Rattle.ta_core.specs.Language.{InLanguage}
use Rattle.ta_core.specs.declared.tree.Tree.{Tree}
use Rattle.fa_core.specs.declared.faces.BoxFace.{BoxFace}
use Rattle.fa_core.specs.declared.forest.Target.{Target}
use Rattle.fa_core.specs.declared.forest.Target.TheVariants.{Null, Uninit, Dangling, At}
use Rattle.fa_core.specs.Dressed.{Node, Parts, End, node, no_parts, field, link, hook, leaf, no_nodes, more, refs}
use Rattle.fa_core.specs.Filled.{Choice, given_at}
use Rattle.fa_core.specs.Member.{bare}
use Rattle.fa_core.specs.References.{AllBelow}
use Rattle.fa_core.specs.Ways.{Way, ways, to_root, given, gives_out_of}
use Rattle.fa_core.proofs.Given.{Tip, tip_to, tips, tips_of, end_tips}
use Rattle.fa_core.proofs.GivenTips.{given_tips}
use Rattle.fa_core.proofs.Rearranging.{flat_map-append}
use Rattle.fa_core.proofs.WaysOf.{tree_roots}
use Rattle.fa_edit.specs.Leaves.{end_of_field, put_leaf, with_leaf}
use Rattle.fa_sound.specs.Components.{component_at}
use Rattle.fa_merge.proofs.IdleRoots.{gift}
use Rattle.fa_split.specs.Split.{top_parts}

-- what a tree gives to a root is what its leaves are given
pub one_given : (bs : List BoxFace) (k : ℕ) (n : Node) → gift bs k (bare n) ≡ flat_map (tip_to k) (tips bs n)
one_given bs k n = sym (append-nil (gift bs k (bare n))) ∙ given_tips bs k (more n no_nodes)
    ∙ ap (λ (xs : List Tip). flat_map (tip_to k) xs) (append-nil (tips bs n))

-- Roots to which no tree refers are given nothing.

none_low : (r : ℕ) (ws : List Way) → AllBelow r (map (λ (w : Way). w.root) ws) → to_root r ws ≡ []
none_low r [] h = refl
none_low r (w ∷ ws) h = here (nat_eq r w.root) refl (none_low r ws h.1)
  where
    here : (b : Bool) → nat_eq r w.root ≡ b → to_root r ws ≡ [] → cond b (w ∷ to_root r ws) (to_root r ws) ≡ []
    here true e k = let s = eqb-true r w.root e in let l = h.0 in absurd (omega (arith, s, l))
    here false e k = k

pub gift_low : (bs : List BoxFace) (r : ℕ) (n : Node) → AllBelow r (refs n) → gift bs r (bare n) ≡ []
gift_low bs r n h =
    ap (λ (ws : List Way). flat_map (λ w. given bs w.steps) ws)
    (none_low r (ways (bare n)) (subst (λ (ks : List ℕ). AllBelow r ks) (sym (tree_roots n)) h))

-- where no tree of a component gives root r anything, no choice does
pub given_low : (bs : List BoxFace) (r : ℕ) (autos : List Automaton)
    → ((k : ℕ) (t : Tree) → k < length autos → InLanguage (component_at autos k) t → gift bs r t ≡ [])
    → (ts : List Tree) → Choice autos ts → given_at bs ts r ≡ []
given_low bs r [] h [] c = refl
given_low bs r [] h (t ∷ ts) c = absurd c
given_low bs r (a ∷ autos) h [] c = absurd c
given_low bs r (a ∷ autos) h (t ∷ ts) c =
    ap₂ (λ (xs ys : List ℕ). xs ++ ys) (h 0 t (omega arith) c.0)
    (given_low bs r autos (λ k u l w. h (suc k) u (omega (arith, l)) w) ts c.1)

-- Other leaves in fields.

abbrev nothing : List ℕ
nothing = []

-- a leaf in a field is given nothing, whichever it is
idle_tip : (k : ℕ) (t : Target) → tip_to k (t, []) ≡ []
idle_tip k Null = refl
idle_tip k Uninit = refl
idle_tip k Dangling = refl
idle_tip k (At j) = here (nat_eq k j)
  where
    here : (b : Bool) → cond b nothing nothing ≡ nothing
    here true = refl
    here false = refl

module _ (f : ℕ) (u : Target) (bs : List BoxFace) (k : ℕ) (t : Target) where
  abbrev gifts : List Tip → List ℕ
  gifts xs = flat_map (tip_to k) xs

  same_more : (xs ys zs : List Tip) → gifts ys ≡ gifts zs → gifts (xs ++ ys) ≡ gifts (xs ++ zs)
  same_more xs ys zs e = flat_map-append (tip_to k) xs ys ∙ ap (λ (l : List ℕ). gifts xs ++ l) e
      ∙ sym (flat_map-append (tip_to k) xs zs)

  -- so the leaves of both give the same
  tips_put : (ps : Parts) → end_of_field f ps ≡ Some (leaf t)
      → flat_map (tip_to k) (tips_of bs (put_leaf f u ps)) ≡ flat_map (tip_to k) (tips_of bs ps)
  tips_put no_parts h = refl
  tips_put (field g e ps) h = here (nat_eq g f) h (tips_put ps)
    where
      here : (b : Bool) → (if b then Some e else end_of_field f ps) ≡ Some (leaf t)
          → (end_of_field f ps ≡ Some (leaf t)
          → flat_map (tip_to k) (tips_of bs (put_leaf f u ps)) ≡ flat_map (tip_to k) (tips_of bs ps))
          → flat_map (tip_to k) (tips_of bs (if b then field g (leaf u) ps else field g e (put_leaf f u ps)))
          ≡ flat_map (tip_to k) (end_tips bs [] e ++ tips_of bs ps)
      here true s later =
          ap (λ (l : List ℕ). l ++ gifts (tips_of bs ps)) (idle_tip k u ∙ sym (idle_tip k t))
          ∙ ap (λ (x : End). flat_map (tip_to k) (end_tips bs [] x ++ tips_of bs ps)) (sym (same_Some e (leaf t) s))
      here false s later = same_more (end_tips bs [] e) (tips_of bs (put_leaf f u ps)) (tips_of bs ps) (later s)
  tips_put (link b inside e ps) h =
      same_more (end_tips bs (gives_out_of bs b) e) (tips_of bs (put_leaf f u ps)) (tips_of bs ps) (tips_put ps h)
  tips_put (hook b inside ps) h = tips_put ps h

  node_tips : (n : Node) → end_of_field f (top_parts n) ≡ Some (leaf t)
      → flat_map (tip_to k) (tips bs (with_leaf f u n)) ≡ flat_map (tip_to k) (tips bs n)
  node_tips (node c s ds ps) h = tips_put ps h

  -- the tree with the other leaf gives each root what the tree gives
  pub gift_put : (n : Node) → end_of_field f (top_parts n) ≡ Some (leaf t)
      → gift bs k (bare (with_leaf f u n)) ≡ gift bs k (bare n)
  gift_put n h = one_given bs k (with_leaf f u n) ∙ node_tips n h ∙ sym (one_given bs k n)
