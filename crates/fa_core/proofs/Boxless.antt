-- Where the face has no boxes, no rule that fits it has a box edge.
use Rattle.std.proofs.Common.{◌≡◌, ℕ, List, [], ◌∷◌, Option, None, slice_get, ap, subst}
use Rattle.fore_base.specs.Lists.{Every}
use Rattle.ta_core.specs.Auto.{Automaton}
use Rattle.ta_core.specs.declared.auto.Rule.{Rule}
use Rattle.ta_core.specs.declared.symbol.Slot.{Slot}
use Rattle.ta_core.specs.declared.symbol.Slot.TheVariants.{Field, Link, Hook}
use Rattle.ta_core.specs.declared.symbol.Symbol.{Symbol}
use Rattle.ta_core.specs.declared.symbol.Symbol.TheVariants.{Null, Uninit, Dangling, Ref, Cell}
use Rattle.fa_core.specs.declared.faces.BoxFace.{BoxFace}
use Rattle.fa_core.specs.declared.faces.Face.{Face}
use Rattle.fa_core.specs.declared.forest.Forest.{Forest}
use Rattle.fa_core.specs.Boxless.{IsField, IsPlain, HasNoBoxes}
use Rattle.fa_core.specs.Filled.{HasOutput, HasNoOutput, face_of, SlotFits, SymbolFits, RulesFit, IsSound}

module _ (face : Face) (none : face.boxes ≡ []) where
  no_face : (b : ℕ) → face_of face.boxes b ≡ None
  no_face b = ap (λ (bs : List BoxFace). slice_get bs b) none

  plain_slot : (s : ℕ) (x : Slot) → SlotFits face s x → IsField x
  plain_slot s (Field f) h = tt
  plain_slot s (Link b) h = subst (λ (x : Option BoxFace). HasOutput x) (no_face b) h
  plain_slot s (Hook b) h = subst (λ (x : Option BoxFace). HasNoOutput x) (no_face b) h

  plain_slots : (s : ℕ) (ss : List Slot) → Every (SlotFits face s) ss → Every IsField ss
  plain_slots s [] h = tt
  plain_slots s (x ∷ ss) h = (plain_slot s x h.0, plain_slots s ss h.1)

  plain_symbol : (y : Symbol) → SymbolFits face y → IsPlain y
  plain_symbol Null h = tt
  plain_symbol Uninit h = tt
  plain_symbol Dangling h = tt
  plain_symbol (Ref r) h = tt
  plain_symbol (Cell s ds ss) h = plain_slots s ss h.3

  plain_rules : (rs : List Rule) → Every (λ (r : Rule). SymbolFits face r.symbol) rs
      → Every (λ (r : Rule). IsPlain r.symbol) rs
  plain_rules [] h = tt
  plain_rules (r ∷ rs) h = (plain_symbol r.symbol h.0, plain_rules rs h.1)

  pub plain_autos : (autos : List Automaton) → Every (RulesFit face) autos → Every HasNoBoxes autos
  plain_autos [] h = tt
  plain_autos (a ∷ autos) h = (plain_rules a.rules h.0, plain_autos autos h.1)

-- a sound forest whose face has no boxes has no Link and no Hook
pub sound_plain : (face : Face) (F : Forest) → IsSound face F → face.boxes ≡ [] → Every HasNoBoxes F.autos
sound_plain face F s none = plain_autos face none F.autos s.well_formed.filled.rules
