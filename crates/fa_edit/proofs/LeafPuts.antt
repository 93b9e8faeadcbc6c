-- The forest with another leaf in a field of a root: its dressed forests are those with that leaf there.
use Rattle.std.proofs.Common.{◌≡◌, ℕ, ◌<◌, length, List, refl, sym, ap, subst, ◌∙◌, Some}
use Rattle.std.proofs.lemmas.Option.{same_Some}
use Rattle.fore_base.specs.declared.shape.Shape.{Shape}
use Rattle.fore_base.specs.Lists.{Every}
use Rattle.ta_core.specs.Auto.{Automaton, IsRanked}
use Rattle.ta_core.specs.Language.{InLanguage}
use Rattle.fa_core.specs.declared.boxes.BoxDef.{BoxDef}
use Rattle.fa_core.specs.declared.forest.Forest.{Forest}
use Rattle.fa_core.specs.declared.forest.Target.{Target}
use Rattle.fa_core.specs.Dressed.{Node, End, Nodes, leaf}
use Rattle.fa_core.specs.Folding.{symbol_slots}
use Rattle.fa_core.specs.Member.{OfForest, InsidesOf, bare, bare_end, slots_of}
use Rattle.fa_edit.specs.Leaves.{HasLeaf, AllHaveLeaf, IsPut, leaf_put, end_of_field, with_leaf}
use Rattle.fa_edit.specs.Plain.{IsLeafPlace, IsPlainAt, place_at}
use Rattle.fa_edit.proofs.ChangedRoots.{put_forth, put_back}
use Rattle.fa_edit.proofs.PlainFields.{a, a_ranked, can, slots_at_top, end_there, put_there, tree_put, leaf_runs}
use Rattle.fa_edit.proofs.PlainFields.{all_have}
use Rattle.fa_split.specs.Split.{top_rule, fixed, split_leaf, end_at, top_parts, with_end}
use Rattle.fa_split.proofs.FixedTrees.{to_fixed, fixed_leaf, fixed_symbol, fixed_with}
use Rattle.fa_split.proofs.OtherComponent.{tree_at, tree_in}
use Rattle.fa_split.proofs.Places.{top_of_child, end_is_leaf, with_end_symbol, with_end_children, insides_with}
use Rattle.fa_split.proofs.TopRules.{tree_by_top}

abbrev leaf_in : End → Target → Target
leaf_in (leaf t) d = t
leaf_in e d = d

module _ (hs : List Shape) (F : Forest) (r f : ℕ) (ranked : Every IsRanked F.autos) (at : IsPlainAt hs F r f) (p : ℕ)
    (place : place_at F r f ≡ Some p) (t : Target) (alone : IsLeafPlace F r p t) (u : Target) where
  abbrev pub own : Automaton
  own = a hs F r f ranked at

  abbrev pub put : Automaton
  put = fixed own p u

  abbrev pub G : Forest
  G = split_leaf F r p u

  pub ranked_own : IsRanked own
  ranked_own = a_ranked hs F r f ranked at

  pub inside : p < length (top_rule own).children
  inside = (can hs F r f ranked at p place).place

  -- Trees.

  -- with the leaf, a tree of the old component is one of the new
  pub to_put : (n : Node) → InLanguage own (bare n) → InLanguage put (bare (with_leaf f u n))
  to_put n l = subst (λ (z : Node). InLanguage put (bare z)) (sym (tree_put hs F r f ranked at p place u n l))
      (to_fixed own p u ranked_own at.top inside (bare (with_end p (leaf u) n)) (bare n)
      (tree_by_top own at.top (bare n) l) (with_end_symbol p (leaf u) n) (with_end_children p (leaf u) n))

  -- a tree of the new one has the same slots, and the leaf
  put_slots : (n : Node) → InLanguage put (bare n) → symbol_slots (top_rule own).symbol ≡ slots_of (top_parts n)
  put_slots n l = ap symbol_slots (fixed_symbol own p u ranked_own at.top inside (bare n) l) ∙ slots_at_top n

  pub put_end : (n : Node) → InLanguage put (bare n) → end_at p (top_parts n) ≡ Some (leaf u)
  put_end n l =
      let c = top_of_child p n (bare_end (leaf u)) (fixed_leaf own p u ranked_own at.top inside (bare n) l) in
      c.1 ∙ ap (λ (z : End). Some z) (end_is_leaf c.0 u c.2)

  pub put_has : (n : Node) → InLanguage put (bare n) → end_of_field f (top_parts n) ≡ Some (leaf u)
  put_has n l = end_there hs F r f ranked at p place (top_parts n) (put_slots n l) ∙ put_end n l

  pub put_old : (v : Target) (n : Node) → InLanguage put (bare n) → with_leaf f v n ≡ with_end p (leaf v) n
  put_old v n l = put_there hs F r f ranked at p place v n (put_slots n l)

  -- with the old leaf it is one of the old
  pub from_put : (n : Node) → InLanguage put (bare n) → InLanguage own (bare (with_leaf f t n))
  from_put n l = subst (λ (z : Node). InLanguage own (bare z)) (sym (put_old t n l))
      (fixed_with own p u ranked_own at.top inside (bare n) (bare (with_end p (leaf t) n)) (bare_end (leaf t)) l
      (leaf_runs hs F r f ranked at p place t alone) (with_end_symbol p (leaf t) n) (with_end_children p (leaf t) n))

  -- Dressed forests.

  module _ (T : List BoxDef) where
    put_insides : (v : Target) (n : Node) → InsidesOf T n → with_leaf f v n ≡ with_end p (leaf v) n
        → InsidesOf T (with_leaf f v n)
    put_insides v n i e = subst (InsidesOf T) (sym e) (insides_with T p n (leaf v) tt i)

    forth : (d : Nodes) → OfForest T F d → OfForest T G (leaf_put r f u d)
    forth d o =
        let n = tree_at T F.autos r d at.root o in
        put_forth T F.autos r put (with_leaf f u) d n.0 n.1 o (to_put n.0 n.2)
        (put_insides u n.0 n.3 (tree_put hs F r f ranked at p place u n.0 n.2))

    new : AllHaveLeaf T G r f u
    new d o = (let n = tree_in T F.autos r put d at.root o in (n.0, n.1, put_has n.0 n.2))

    back : (d : Nodes) → OfForest T G d → OfForest T F (leaf_put r f t d)
    back d o =
        let n = tree_in T F.autos r put d at.root o in
        put_back T F.autos r put (with_leaf f t) d n.0 n.1 at.root o (from_put n.0 n.2)
        (put_insides t n.0 n.3 (put_old t n.0 n.2))

    same_leaf : (v : Target) (d : Nodes) → HasLeaf d r f t → HasLeaf d r f v → t ≡ v
    same_leaf v d (n, e, h) (m, k, j) =
        let s : n ≡ m = same_Some n m (sym e ∙ k) in
        let w : Some (leaf t) ≡ Some (leaf v) = sym h ∙ ap (λ (z : Node). end_of_field f (top_parts z)) s ∙ j in
        ap (λ (z : End). leaf_in z t) (same_Some (leaf t) (leaf v) w)

    -- whichever leaf stands in the field in each dressed forest, it is that of the rules
    pub is_put : (v : Target) → AllHaveLeaf T F r f v → IsPut T F G r f v u
    is_put v old = record {
      vars = refl;
      data_vars = refl;
      old = old;
      forth = forth;
      new = new;
      back = λ d o. (let b = back d o in
          let s : t ≡ v = same_leaf v (leaf_put r f t d)
          (all_have hs F r f ranked at p place t alone T (leaf_put r f t d) b) (old (leaf_put r f t d) b) in
          subst (λ (z : Target). OfForest T F (leaf_put r f z d)) s b);
    }
