-- The steps that cut knots, on sound forests.
use Rattle.std.proofs.Common.{◌≡◌, ◌⊎◌, inl, inr, ℕ, ◌<◌, ◌+◌, Bool, true, false, true≢false, length, List, [], ◌∷◌}
use Rattle.std.proofs.Common.{refl, sym, ap, subst, ◌∙◌, slice_get, Some, arith}
use Rattle.std.specs.Bool.{MatchBool}
use Rattle.std.proofs.lemmas.Option.{same_Some}
use Rattle.fore_base.specs.Lists.{Every}
use Rattle.ta_core.specs.Auto.{Automaton, IsRanked, automaton}
use Rattle.ta_core.specs.Language.{InLanguage, RunOf}
use Rattle.ta_core.specs.Single.{HasOneTop}
use Rattle.ta_core.specs.declared.symbol.Symbol.{Symbol}
use Rattle.ta_core.specs.declared.tree.Tree.{Tree, out-Tree}
use Rattle.fa_core.specs.Canonical.{RefersTo}
use Rattle.fa_core.specs.Cells.{roots_in}
use Rattle.fa_core.specs.Filled.{Choice, IsSound}
use Rattle.fa_core.specs.Ways.{has, signature}
use Rattle.fa_core.specs.declared.faces.BoxFace.{BoxFace}
use Rattle.fa_core.specs.declared.faces.Face.{Face}
use Rattle.fa_core.specs.declared.forest.Forest.{Forest}
use Rattle.fa_core.specs.declared.forest.Target.{Target}
use Rattle.fa_core.specs.declared.signature.RefMark.{RefMark}
use Rattle.fa_core.specs.declared.signature.Signature.{Signature}
use Rattle.fa_core.proofs.Dressing.{each_length}
use Rattle.fa_sound.specs.Soundness.{SoundForest}
use Rattle.fa_sound.specs.Components.{component_at}
use Rattle.fa_back.proofs.Dressable.{some_choice}
use Rattle.fa_merge.proofs.LoneFound.{choice_at, named_refer, unnamed_refer}
use Rattle.fa_merge.proofs.PlacedForests.{component_has}
use Rattle.fa_order.specs.Kinds.{IsSharedRoot}
use Rattle.fa_order.specs.Placing.{DoEdgesGive}
use Rattle.fa_split.specs.Giving.{RulesGive}
use Rattle.fa_split.specs.Split.{CanSplit, MayBeLeaf, split_cells, split_leaf, top_rule}
use Rattle.fa_split.proofs.LinksGive.{faces_give, plain_gives}
use Rattle.fa_split.proofs.TopRules.{tree_by_top}
use Rattle.fa_canon.specs.inner.Cutting.{HasWidth, IsCutting, has_field_at}
use Rattle.fa_canon.specs.inner.Knots.{AreTied, AreUntied, CanCut, HasCutAt, IsSplitAt}
use Rattle.fa_canon.specs.inner.Steps.{HasChosen}
use Rattle.fa_canon.proofs.CutForests.{cells_cutting, leaf_cutting, skip_cutting, top_of_tree, within_cutting}
use Rattle.fa_canon.proofs.CutForests.{within_shared, within_width}
use Rattle.fa_canon.proofs.SplitSteps.{all_tops, covers_long}
use Rattle.fa_canon.proofs.SplitTrees.{child_runs}

-- Box edges that lead back give something.
pub edges_give : (face : Face) (F : Forest) → DoEdgesGive face F → Every (RulesGive face.boxes) F.autos
edges_give face F (inl giving) = faces_give face.boxes giving F.autos
edges_give face F (inr plain) = plain_gives face.boxes F.autos plain

-- How many children the trees of a root have.

top_length : (F : Forest) (r : ℕ) (ts : List Tree) (t : Tree) → r < length F.autos → HasOneTop (component_at F.autos r)
    → Choice F.autos ts → slice_get ts r ≡ Some t → length (top_rule (component_at F.autos r)).children
    ≡ length (out-Tree t).children
top_length F r ts t l one c e =
    let a = component_at F.autos r in
    let k = choice_at F.autos ts r c l in
    each_length a.rules
    (tree_by_top a one t (subst (λ (z : Tree). InLanguage a z) (same_Some k.0 t (sym k.1 ∙ e)) k.2)).1

pub width_is : (F : Forest) (r : ℕ) → r < length F.autos → HasOneTop (component_at F.autos r)
    → HasWidth F r (length (top_rule (component_at F.autos r)).children)
width_is F r l one ts t c e = sym (top_length F r ts t l one c e)

module _ (n r p m : ℕ) (F : SoundForest) (sound : IsSound F.face F.forest) (can : CanCut n r p m F) where
  root_there : r < length F.forest.autos
  root_there = let a = can.0.2.few in let b = can.2 in omega (arith, a, b)

  root_top : HasOneTop (component_at F.forest.autos r)
  root_top = component_has HasOneTop F.forest.autos r can.0.1 root_there

  pub can_split : CanSplit F.forest r p
  can_split =
      let c = some_choice F.forest.autos sound.full in
      let t = choice_at F.forest.autos c.0 r c.1 root_there in
      let a = top_length F.forest r c.0 t.0 root_there root_top c.1 t.1 in
      let b = can.1.0 c.0 t.0 c.1 t.1 in
      let l = can.3 in
      record { root = root_there; top = root_top; place = omega (arith, a, b, l) }

  module _ (ranked : Every IsRanked F.forest.autos) where
    -- no field leads to the child, or it does not refer to the root
    pub loose_child : AreUntied r p F → HasCutAt n r (p + 1) m F F
    loose_child h = (
      can.0.1,
      skip_cutting n r p F.forest
          (λ ts t u c e y f. h (ap (λ (z : Symbol). has_field_at z p) (top_of_tree F.forest r ts t root_top c e) ∙ y) u
          (child_runs F.forest r p ranked can_split ts t u c e f)) can.0.2,
      can.1.0,
      can.1.1,
    )

    -- it is split, and one rule chosen for the new root
    pub knot_cut : AreTied r p F → (G H : SoundForest) → IsSplitAt r p F G → HasChosen (length G.forest.autos) G H
        → HasCutAt n r (p + 1) m F H
    knot_cut ties G H s c = by_case s.0
      where
        long : length H.forest.autos ≡ length G.forest.autos
        long = covers_long G.forest H.forest c.0

        tops : Every HasOneTop H.forest.autos
        tops = all_tops H.forest.autos (λ k l. c.1 k (omega (arith, l, long)))

        after : IsCutting n r (p + 1) G.forest × HasWidth G.forest r m × IsSharedRoot G.forest r
            → HasCutAt n r (p + 1) m F H
        after w = (
          tops,
          within_cutting n r (p + 1) G.forest H.forest c.0 long w.0,
          within_width r m G.forest H.forest c.0 w.1,
          within_shared r G.forest H.forest c.0 w.2,
        )

        by_case : (((y : Target) × MayBeLeaf F.forest r p y × (G.forest ≡ split_leaf F.forest r p y))
            ⊎ (G.forest ≡ split_cells F.forest r p)) → HasCutAt n r (p + 1) m F H
        by_case (inl (y, may, e)) =
            after
            (subst (λ (z : Forest). IsCutting n r (p + 1) z × HasWidth z r m × IsSharedRoot z r) (sym e)
            (leaf_cutting F.face n r p m F.forest sound ranked can_split can.2 can.1.0 can.1.1 can.0.2 y may))
        by_case (inr e) =
            after
            (subst (λ (z : Forest). IsCutting n r (p + 1) z × HasWidth z r m × IsSharedRoot z r) (sym e)
            (cells_cutting F.face n r p m F.forest sound ranked can_split can.2 can.1.0 can.1.1 can.0.2 ties.0 ties.1))

-- Whether what may be the child refers to the root, by the signature of its state.

module _ (bs : List BoxFace) (a : Automaton) (q r : ℕ) (marks : List RefMark)
    (signed : (t : Tree) → RunOf a.rules q t → marks ≡ signature bs t) where
  abbrev own : Signature
  own = record { refs = marks }

  abbrev state_alone : Automaton
  state_alone = automaton a.states (q ∷ []) a.rules

  of_state : (t : Tree) → InLanguage state_alone t → signature bs t ≡ marks
  of_state t (z, inl e, h) = sym (signed t (subst (λ (n : ℕ). RunOf a.rules n t) e h))
  of_state t (z, inr e, h) = absurd e

  tied_or_not : (yes_or_no : Bool) → yes_or_no ≡ has r (roots_in marks)
      → MatchBool yes_or_no ((u : Tree) → RunOf a.rules q u → RefersTo u r)
      ((u : Tree) → RunOf a.rules q u → RefersTo u r → ⊥)
  tied_or_not true e = λ u h. named_refer bs state_alone own r of_state (sym e) u (q, inl refl, h)
  tied_or_not false e = λ u h. unnamed_refer bs state_alone own r of_state (sym e) u (q, inl refl, h)

  -- where a field leads to the child, and where none does
  pub knot_or_not : (in_field yes_or_no : Bool) → in_field ≡ true → yes_or_no ≡ has r (roots_in marks)
      → MatchBool yes_or_no ((in_field ≡ true) × ((u : Tree) → RunOf a.rules q u → RefersTo u r))
      (in_field ≡ true → (u : Tree) → RunOf a.rules q u → RefersTo u r → ⊥)
  knot_or_not x true t e = (t, tied_or_not true e)
  knot_or_not x false t e = λ f. tied_or_not false e

  pub no_knot : (in_field : Bool) (test : Bool) → test ≡ in_field → test ≡ false
      → MatchBool test ((in_field ≡ true) × ((u : Tree) → RunOf a.rules q u → RefersTo u r))
      (in_field ≡ true → (u : Tree) → RunOf a.rules q u → RefersTo u r → ⊥)
  no_knot x true e z = absurd (true≢false z)
  no_knot x false e z = λ f. absurd (true≢false (sym (e ∙ f)))
