-- Where box edges that lead back give something.
use Rattle.std.proofs.Common.{◌≡◌, ◌≢◌, true, true≢false, List, []}
use Rattle.std.proofs.Common.{◌∷◌, Option, Some, None, slice_get, refl, sym}
use Rattle.fore_base.specs.Lists.{Every}
use Rattle.fore_base.proofs.ListLemmas.{every_in, every_weaker, in_from_place}
use Rattle.ta_core.specs.Auto.{Automaton}
use Rattle.ta_core.specs.declared.auto.Rule.{Rule}
use Rattle.ta_core.specs.declared.symbol.Slot.{Slot}
use Rattle.ta_core.specs.declared.symbol.Slot.TheVariants.{Field, Link, Hook}
use Rattle.ta_core.specs.declared.symbol.Symbol.{Symbol}
use Rattle.ta_core.specs.declared.symbol.Symbol.TheVariants.{Null, Uninit, Dangling, Ref, Cell}
use Rattle.fa_core.specs.declared.faces.BoxFace.{BoxFace}
use Rattle.fa_core.specs.Boxless.{IsField, IsPlain, HasNoBoxes}
use Rattle.fa_core.specs.Faces.{IsGiving}
use Rattle.fa_core.specs.Ways.{leads_through, fields_out}
use Rattle.fa_split.specs.Giving.{SlotGives, SymbolGives, RulesGive}

module _ (bs : List BoxFace) where
  -- no box edge
  plain_symbol : (y : Symbol) → IsPlain y → SymbolGives bs y
  plain_symbol Null h = tt
  plain_symbol Uninit h = tt
  plain_symbol Dangling h = tt
  plain_symbol (Ref r) h = tt
  plain_symbol (Cell s ds ss) h = every_weaker IsField (SlotGives bs) ss each h
    where
      each : (s : Slot) → IsField s → SlotGives bs s
      each (Field f) k = tt
      each (Link b) k = absurd k
      each (Hook b) k = absurd k

  pub plain_gives : (autos : List Automaton) → Every HasNoBoxes autos → Every (RulesGive bs) autos
  plain_gives autos h = every_weaker HasNoBoxes (RulesGive bs) autos
      (λ a k. every_weaker (λ (r : Rule). IsPlain r.symbol) (λ (r : Rule). SymbolGives bs r.symbol) a.rules
      (λ r i. plain_symbol r.symbol i) k) h

  module _ (giving : Every IsGiving bs) where
    face_gives : (o : Option BoxFace) → ((x : BoxFace) → o ≡ Some x → IsGiving x) → leads_through o ≡ true
        → fields_out o ≢ []
    face_gives None h e = absurd (true≢false (sym e))
    face_gives (Some x) h e = h x refl e

    slot_gives : (s : Slot) → SlotGives bs s
    slot_gives (Field f) = tt
    slot_gives (Link b) = face_gives (slice_get bs b) (λ x e. every_in IsGiving bs x giving (in_from_place bs b x e))
    slot_gives (Hook b) = tt

    slots_give : (ss : List Slot) → Every (SlotGives bs) ss
    slots_give [] = tt
    slots_give (s ∷ ss) = (slot_gives s, slots_give ss)

    symbol_gives : (y : Symbol) → SymbolGives bs y
    symbol_gives Null = tt
    symbol_gives Uninit = tt
    symbol_gives Dangling = tt
    symbol_gives (Ref r) = tt
    symbol_gives (Cell s ds ss) = slots_give ss

    rules_give : (rs : List Rule) → Every (λ (r : Rule). SymbolGives bs r.symbol) rs
    rules_give [] = tt
    rules_give (r ∷ rs) = (symbol_gives r.symbol, rules_give rs)

    pub faces_give : (autos : List Automaton) → Every (RulesGive bs) autos
    faces_give [] = tt
    faces_give (a ∷ autos) = (rules_give a.rules, faces_give autos)
