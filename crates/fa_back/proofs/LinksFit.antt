-- Where the ends of a tree's slots fit, its box edges end as their boxes want, by what the roots are.
use Rattle.std.proofs.Common.{◌≡◌, ◌⊎◌, inl, inr, ℕ, zero, suc, ◌<◌, length, List, [], ◌∷◌, Some, refl}
use Rattle.std.proofs.Common.{sym, ap, subst, ◌∙◌, arith}
use Rattle.std.proofs.lemmas.Option.{slice_get_within}
use Rattle.fore_base.specs.Lists.{IsIn, Every}
use Rattle.fore_base.specs.declared.store.Value.{Value}
use Rattle.fore_base.specs.declared.store.Value.TheVariants.{Dangling as DanglingValue, Cell}
use Rattle.fore_base.proofs.ListLemmas.{in_left, in_right, every_parts, every_weaker}
use Rattle.ta_core.specs.declared.symbol.Symbol.TheVariants.{Dangling as DanglingSymbol}
use Rattle.ta_core.specs.declared.tree.Tree.{Tree, out-Tree}
use Rattle.fa_core.specs.declared.faces.BoxFace.{BoxFace}
use Rattle.fa_core.specs.declared.faces.Face.{Face}
use Rattle.fa_core.specs.declared.forest.Target.{Target}
use Rattle.fa_core.specs.declared.forest.Target.TheVariants.{Null, Uninit, Dangling, At}
use Rattle.fa_core.specs.Boxes.{OutFits, InsideFilled, IsPortFilled}
use Rattle.fa_core.specs.Choices.{bares, count}
use Rattle.fa_core.specs.Dressed.{Node, Parts, End, Nodes, node, no_parts, field, link, hook, under, leaf, no_nodes}
use Rattle.fa_core.specs.Dressed.{more, end_value, value_in, nth_value, roots_of, number}
use Rattle.fa_core.specs.Filled.{Spot, spots, given_at, EndsFit, NamesStruct, face_of, IsFilledSpot, TreesFilled}
use Rattle.fa_core.specs.Filled.{TopsAre}
use Rattle.fa_core.specs.Member.{bare, bare_end, slots_of, leaf_symbol}
use Rattle.fa_core.specs.Ways.{gives_out_of, fields_out}
use Rattle.fa_core.proofs.Dressing.{leaf_top}
use Rattle.fa_core.proofs.Given.{Tip, tips, tips_of, end_tips, all_tips}
use Rattle.fa_core.proofs.NodeSpots.{node_spots, parts_spots, end_spots, end_symbols, spots_are, one_leaf}
use Rattle.fa_back.proofs.EdgesWorth.{LinksFit, PartsFit, EndFits, AllFit}

module _ (face : Face) (tops : List ℕ) where
  abbrev pub EndsRight : Spot → Type 0
  EndsRight p = EndsFit face tops p.shape p.slots p.ends

  -- the ends of each tree fit, whatever is given to its top
  abbrev pub AllEnds : Nodes → Type 0
  AllEnds no_nodes = Unit {0}
  AllEnds (more n ns) = ((above : List ℕ) × Every EndsRight (spots face.boxes (bare n) above)) × AllEnds ns

module _ (face : Face) (tops : List ℕ) (vs : List Value) where
  -- what root k is, where an edge that gives the fields g ends at it
  abbrev pub RootFits : ℕ → List ℕ → Type 0
  RootFits k g = ((m : ℕ) × (nth_value vs k ≡ Cell m)) ⊎ ((nth_value vs k ≡ DanglingValue) × (g ≡ []))

  abbrev pub TipsFit : List Tip → Type 0
  TipsFit ts = (k : ℕ) (g : List ℕ) → IsIn (At k, g) ts → k < length tops → RootFits k g

  root_out : (b : ℕ) (x : BoxFace) (v : Value) → face_of face.boxes b ≡ Some x
      → ((m : ℕ) × (v ≡ Cell m)) ⊎ ((v ≡ DanglingValue) × (gives_out_of face.boxes b ≡ [])) → OutFits x v
  root_out b x v f (inl h) = inl h
  root_out b x v f (inr h) = inr (h.0, ap fields_out (sym f) ∙ h.1)

  leaf_out : (b : ℕ) (x : BoxFace) (t : ℕ) (u : Target) → face_of face.boxes b ≡ Some x
      → NamesStruct tops (leaf_symbol u) t → TipsFit ((u, gives_out_of face.boxes b) ∷ [])
      → OutFits x (value_in vs u)
  leaf_out b x t Null f h tip = absurd h
  leaf_out b x t Uninit f h tip = absurd h
  leaf_out b x t Dangling f h tip = absurd h
  leaf_out b x t (At k) f h tip =
      root_out b x (nth_value vs k) f (tip k (gives_out_of face.boxes b) (inl refl) (slice_get_within tops k t h))

  out_fits : (b : ℕ) (x : BoxFace) (t : ℕ) (e : End) → face_of face.boxes b ≡ Some x
      → NamesStruct tops (out-Tree (bare_end e)).symbol t
      ⊎ (((out-Tree (bare_end e)).symbol ≡ DanglingSymbol) × (x.gives_out ≡ []))
      → TipsFit (end_tips face.boxes (gives_out_of face.boxes b) e) → OutFits x (end_value vs e)
  out_fits b x t (under n) f h tip = inl (number n, refl)
  out_fits b x t (leaf u) f (inl h) tip = leaf_out b x t u f (rw (leaf_top u) at h) tip
  out_fits b x t (leaf u) f (inr h) tip =
      inr (ap (value_in vs) (one_leaf u Dangling (sym (leaf_top u) ∙ h.0)), h.1)

  mutual
    fit_tree : (n : Node) (above : List ℕ) → Every (EndsRight face tops) (node_spots face.boxes n above)
        → TipsFit (tips face.boxes n) → LinksFit face.boxes vs n
    fit_tree (node c s ds ps) above h t = fit_parts s ps h.0 h.1 t

    fit_parts : (s : ℕ) (ps : Parts) → EndsFit face tops s (slots_of ps) (end_symbols ps)
        → Every (EndsRight face tops) (parts_spots face.boxes ps) → TipsFit (tips_of face.boxes ps)
        → PartsFit face.boxes vs ps
    fit_parts s no_parts w h t = tt
    fit_parts s (field f e ps) w h t =
        let k = every_parts (EndsRight face tops) (end_spots face.boxes [] e) (parts_spots face.boxes ps) h in (
          fit_end [] e k.0 (λ j g i. t j g (in_left (At j, g) (end_tips face.boxes [] e) (tips_of face.boxes ps) i)),
          fit_parts s ps w.1 k.1
              (λ j g i. t j g (in_right (At j, g) (end_tips face.boxes [] e) (tips_of face.boxes ps) i)),
        )
    fit_parts s (link b inside e ps) w h t =
        let k = every_parts (EndsRight face tops) (end_spots face.boxes (gives_out_of face.boxes b) e)
        (parts_spots face.boxes ps) h in
        let low : TipsFit (end_tips face.boxes (gives_out_of face.boxes b) e) =
        λ j g i. t j g (in_left (At j, g) (end_tips face.boxes (gives_out_of face.boxes b) e)
        (tips_of face.boxes ps) i) in (
          (w.0.0, w.0.1, w.0.2, w.0.4, out_fits b w.0.0 w.0.1 e w.0.2 w.0.5 low),
          fit_end (gives_out_of face.boxes b) e k.0 low,
          fit_parts s ps w.1 k.1
              (λ j g i. t j g
              (in_right (At j, g) (end_tips face.boxes (gives_out_of face.boxes b) e) (tips_of face.boxes ps) i)),
        )
    fit_parts s (hook b inside ps) w h t = ((w.0.0, w.0.1, w.0.3), fit_parts s ps w.1 h t)

    fit_end : (g : List ℕ) (e : End) → Every (EndsRight face tops) (end_spots face.boxes g e)
        → TipsFit (end_tips face.boxes g e) → EndFits face.boxes vs e
    fit_end g (under n) h t = fit_tree n g h t
    fit_end g (leaf u) h t = tt

  pub fit_all : (d : Nodes) → AllEnds face tops d → TipsFit (all_tips face.boxes d) → AllFit face.boxes vs d
  fit_all no_nodes h t = tt
  fit_all (more n ns) h t = (
    fit_tree n h.0.0
        (subst (λ (x : List Spot). Every (EndsRight face tops) x) (spots_are face.boxes n h.0.0) h.0.1)
        (λ j g i. t j g (in_left (At j, g) (tips face.boxes n) (all_tips face.boxes ns) i)),
    fit_all ns h.1 (λ j g i. t j g (in_right (At j, g) (tips face.boxes n) (all_tips face.boxes ns) i)),
  )

module _ (face : Face) (tops : List ℕ) where
  filled_ends : (ps : List Spot) → Every (IsFilledSpot face tops) ps → Every (EndsRight face tops) ps
  filled_ends ps h = every_weaker (IsFilledSpot face tops) (EndsRight face tops) ps (λ p k. k.ends) h

  port_ends : (fields : List ℕ) (ps : List Spot) → IsPortFilled face tops fields ps → Every (EndsRight face tops) ps
  port_ends fields [] h = absurd h
  port_ends fields (p ∷ ps) h = (h.0.ends, filled_ends ps h.1)

  -- the ends of filled trees fit
  pub trees_ends : (all : List Tree) (r : ℕ) (d : Nodes) → TreesFilled face all tops r (bares d) → AllEnds face tops d
  trees_ends all r no_nodes h = tt
  trees_ends all r (more n ns) h = (
    (given_at face.boxes all r, filled_ends (spots face.boxes (bare n) (given_at face.boxes all r)) h.0),
    trees_ends all (suc r) ns h.1,
  )

  -- and so do those of an inside that is filled
  pub inside_ends : (all : List Tree) (r : ℕ) (ports : List (List ℕ)) (d : Nodes)
      → InsideFilled face all tops r ports (bares d) → AllEnds face tops d
  inside_ends all r ports no_nodes h = tt
  inside_ends all r [] (more n ns) h = (
    (given_at face.boxes all r, filled_ends (spots face.boxes (bare n) (given_at face.boxes all r)) h.0),
    inside_ends all (suc r) [] ns h.1,
  )
  inside_ends all r (fields ∷ ports) (more n ns) h = (
    (given_at face.boxes all r, port_ends fields (spots face.boxes (bare n) (given_at face.boxes all r)) h.0),
    inside_ends all (suc r) ports ns h.1,
  )

-- Roots.

pub tops_long : (d : Nodes) (tops : List ℕ) → TopsAre (bares d) tops → length tops ≡ count d
tops_long no_nodes [] h = refl
tops_long no_nodes (t ∷ tops) h = absurd h
tops_long (more n ns) [] h = absurd h
tops_long (more n ns) (t ∷ tops) h = ap suc (tops_long ns tops h.1)

pub root_cell : (d : Nodes) (k : ℕ) → k < count d → (m : ℕ) × (nth_value (roots_of d) k ≡ Cell m)
root_cell no_nodes k l = absurd (none l)
  where
    none : k < 0 → ⊥
    none l = omega (arith, l)
root_cell (more n ns) zero l = (number n, refl)
root_cell (more n ns) (suc k) l = root_cell ns k (omega (arith, l))

-- where each root is its cell, the box edges of filled trees end as their boxes want
pub fit_roots : (face : Face) (tops : List ℕ) (d : Nodes) → length tops ≡ count d → AllEnds face tops d
    → AllFit face.boxes (roots_of d) d
fit_roots face tops d long h = fit_all face tops (roots_of d) d h
    (λ k g i l. inl (root_cell d k (subst (λ (n : ℕ). k < n) long l)))
