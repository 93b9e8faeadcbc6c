-- Forests without box edges: nothing is there to be opened.
use Rattle.std.proofs.Common.{◌≡◌, ℕ, zero, suc, List, [], ◌∷◌, refl, subst, Option, Some, None, slice_get}
use Rattle.fore_base.specs.Lists.{IsIn, Every}
use Rattle.fore_base.proofs.ListLemmas.{every_in, in_from_place}
use Rattle.ta_core.specs.Auto.{Automaton}
use Rattle.ta_core.specs.declared.auto.Rule.{Rule}
use Rattle.ta_core.specs.declared.symbol.Slot.{Slot}
use Rattle.ta_core.specs.declared.symbol.Slot.TheVariants.{Field, Link, Hook}
use Rattle.ta_core.specs.declared.symbol.Symbol.{Symbol}
use Rattle.ta_core.specs.declared.symbol.Symbol.TheVariants.{Null, Uninit, Dangling, Ref, Cell}
use Rattle.fa_core.specs.Boxless.{HasNoBoxes, IsField, IsPlain}
use Rattle.fa_core.specs.declared.faces.BoxFace.{BoxFace}
use Rattle.fa_core.specs.declared.forest.Forest.{Forest}
use Rattle.fa_core.specs.Folding.{symbol_slots}
use Rattle.fa_core.specs.Ways.{to_root, ways}
use Rattle.fa_core.proofs.PlainWays.{none_given, plain_to, run_plain}
use Rattle.fa_sound.specs.Components.{component_at}
use Rattle.fa_split.specs.Split.{top_rule}
use Rattle.fa_split.proofs.TopRules.{top_in}
use Rattle.fa_lift.specs.Lift.{IsProvider, fields_given}
use Rattle.fa_unfold.specs.UnfoldingOf.{CanUnfold, IsBoxEdge, root_slots}
use Rattle.fa_opening.specs.inner.Rounds.{IsNeeded}
use Rattle.fa_opening.proofs.SlotEdges.{needed_can}

plain_slots : (y : Symbol) → IsPlain y → Every IsField (symbol_slots y)
plain_slots Null h = tt
plain_slots Uninit h = tt
plain_slots Dangling h = tt
plain_slots (Ref r) h = tt
plain_slots (Cell s ds ss) h = h

field_no_edge : (s : Slot) → IsField s → IsBoxEdge (Some s) → ⊥
field_no_edge (Field f) i h = h
field_no_edge (Link b) i h = i
field_no_edge (Hook b) i h = i

-- no component has box edges, also where there is none
component_plain : (autos : List Automaton) (r : ℕ) → Every HasNoBoxes autos → HasNoBoxes (component_at autos r)
component_plain [] r h = tt
component_plain (a ∷ autos) zero h = h.0
component_plain (a ∷ autos) (suc r) h = component_plain autos r h.1

module _ (F : Forest) (plain : Every HasNoBoxes F.autos) where
  -- no slot of a root with one rule is a box edge
  none_can : (u p : ℕ) → CanUnfold F u p → ⊥
  none_can u p can = here (slice_get (root_slots F u) p) refl can.edge
    where
      slots : Every IsField (root_slots F u)
      slots =
          let a = component_at F.autos u in
          plain_slots (top_rule a).symbol
          (every_in (λ (x : Rule). IsPlain x.symbol) a.rules (top_rule a) (component_plain F.autos u plain)
          (top_in a can.top))

      here : (o : Option Slot) → slice_get (root_slots F u) p ≡ o → IsBoxEdge o → ⊥
      here None e h = h
      here (Some s) e h =
          field_no_edge s
          (every_in IsField (root_slots F u) s slots (in_from_place (root_slots F u) p s e)) h

  -- so none is for a field
  pub none_needed : (bs : List BoxFace) (r f u p : ℕ) → IsNeeded bs r f F u p → ⊥
  none_needed bs r f u p h = none_can u p (needed_can bs r f F u p h)

  -- and none gives one
  pub none_provides : (bs : List BoxFace) (r f t : ℕ) → IsProvider bs F r f t → ⊥
  none_provides bs r f t h =
      let a = component_at F.autos t in
      let u = h.provides.0 in
      let e : fields_given bs r u ≡ [] = none_given bs (to_root r (ways u))
      (plain_to bs r (ways u) (run_plain bs a.rules (component_plain F.autos t plain) h.provides.1.2)) in
      subst (λ (fs : List ℕ). IsIn f fs) e h.provides.2
