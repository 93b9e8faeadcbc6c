-- The insides of boxes, exactly as they are written: the root states and the rules of the lines in their order, and as
-- many states as one more than the greatest number that occurs.
use Rattle.std.specs.Prelude.{ℕ, suc, List, [], ◌∷◌, ◌++◌, map, cond, nat_le, slice_get, Option, Some, None}
use Rattle.ta_core.specs.Auto.{Automaton, automaton}
use Rattle.ta_core.specs.declared.auto.Rule.{Rule}
use Rattle.ta_core.specs.declared.symbol.Slot.{Slot}
use Rattle.ta_core.specs.declared.symbol.Slot.TheVariants.{Field as ToField, Link as ToLink, Hook as ToHook}
use Rattle.ta_core.specs.declared.symbol.Symbol.{Symbol}
use Rattle.ta_core.specs.declared.symbol.Symbol.TheVariants.{Null as IsNull, Uninit as IsUninit, Dangling as IsDangling}
use Rattle.ta_core.specs.declared.symbol.Symbol.TheVariants.{Ref as IsRef, Cell as IsCell}
use Rattle.fa_lines.specs.declared.line.SlotText.{SlotText}
use Rattle.fa_lines.specs.declared.line.SlotText.TheVariants.{Field, Link, Hook}
use Rattle.fa_lines.specs.declared.line.Term.{Term}
use Rattle.fa_lines.specs.declared.line.Term.TheVariants.{Null, Uninit, Dangling, Ref, Cell}
use Rattle.fa_written.specs.declared.draft.RuleDraft.{RuleDraft}
use Rattle.fa_written.specs.declared.draft.PartDraft.{PartDraft}
use Rattle.fa_named.specs.Places.{Texts, place}
use Rattle.fa_named.specs.declared.named.Fields.{Fields}
use Rattle.fa_named.specs.declared.named.Known.{Known}

-- the state below a slot, if there is one
abbrev pub child_of : SlotText → List ℕ
child_of (Field name q) = q ∷ []
child_of (Link name q) = q ∷ []
child_of (Hook name) = []

-- the states below slots
abbrev pub children_of : List SlotText → List ℕ
children_of [] = []
children_of (s ∷ ss) = child_of s ++ children_of ss

-- the states below a term
abbrev pub below_term : Term → List ℕ
below_term Null = []
below_term Uninit = []
below_term Dangling = []
below_term (Ref r) = []
below_term (Cell shape ds slots) = children_of slots

-- the states that stand below a cell
abbrev pub below_rules : List RuleDraft → List ℕ
below_rules [] = []
below_rules (r ∷ rs) = below_term r.term ++ below_rules rs

-- the least number that is n at least, and above each of the numbers
abbrev pub bound_from : ℕ → List ℕ → ℕ
bound_from n [] = n
bound_from n (q ∷ qs) = bound_from (cond (nat_le n q) (suc q) n) qs

abbrev pub rule_states : List RuleDraft → List ℕ
rule_states rs = map (λ r. r.state) rs

-- one more than the greatest state that occurs
abbrev pub state_count : PartDraft → ℕ
state_count p = bound_from (bound_from (bound_from 0 p.roots) (rule_states p.rules)) (below_rules p.rules)

-- a slot over these pointer fields and these boxes
abbrev pub slot_of : Texts → Texts → SlotText → Slot
slot_of pointers boxes (Field name q) = ToField (place name pointers)
slot_of pointers boxes (Link name q) = ToLink (place name boxes)
slot_of pointers boxes (Hook name) = ToHook (place name boxes)

abbrev pub pointers_in : Option Fields → Texts
pointers_in None = []
pointers_in (Some f) = f.pointers

abbrev pub symbol_of : Known → Texts → Term → Symbol
symbol_of known boxes Null = IsNull
symbol_of known boxes Uninit = IsUninit
symbol_of known boxes Dangling = IsDangling
symbol_of known boxes (Ref r) = IsRef r
symbol_of known boxes (Cell shape ds slots) =
    IsCell (place shape known.names) (map (λ d. d.datum) ds)
    (map (slot_of (pointers_in (slice_get known.fields (place shape known.names))) boxes) slots)

abbrev pub rule_of : Known → Texts → RuleDraft → Rule
rule_of known boxes r =
    record { state = r.state; symbol = symbol_of known boxes r.term; children = below_term r.term }

abbrev pub auto_of : Known → Texts → PartDraft → Automaton
auto_of known boxes p = automaton (state_count p) p.roots (map (rule_of known boxes) p.rules)
