-- Places of fields are places of children.
use Rattle.std.proofs.Common.{◌≡◌, ℕ, suc, ◌+◌, ◌<◌, Bool, true, false, nat_eq, if◌then◌else◌, List, [], ◌∷◌, length}
use Rattle.std.proofs.Common.{sym, subst, Some, arith}
use Rattle.std.proofs.lemmas.Option.{none-some, same_Some}
use Rattle.fore_base.proofs.ListLemmas.{every_in}
use Rattle.ta_core.specs.Arity.{arity, child_slots}
use Rattle.ta_core.specs.Auto.{Automaton, IsRanked, IsRankedRule}
use Rattle.ta_core.specs.Single.{HasOneTop}
use Rattle.ta_core.specs.declared.symbol.Slot.{Slot}
use Rattle.ta_core.specs.declared.symbol.Slot.TheVariants.{Field, Link, Hook}
use Rattle.ta_core.specs.declared.symbol.Symbol.{Symbol}
use Rattle.ta_core.specs.declared.symbol.Symbol.TheVariants.{Null, Uninit, Dangling, Ref, Cell}
use Rattle.fa_core.specs.Folding.{symbol_slots}
use Rattle.fa_split.specs.Split.{top_rule}
use Rattle.fa_split.proofs.TopRules.{top_in}
use Rattle.fa_edit.specs.Plain.{field_place_from, field_place}

place_below : (k f p : ℕ) (ss : List Slot) → field_place_from k f ss ≡ Some p → p < k + child_slots ss
place_below k f p [] h = absurd (none-some p h)
place_below k f p (Field g ∷ ss) h = here (nat_eq g f) h (λ e. place_below (suc k) f p ss e)
  where
    here : (b : Bool) → (if b then Some k else field_place_from (suc k) f ss) ≡ Some p
        → (field_place_from (suc k) f ss ≡ Some p → p < suc k + child_slots ss) → p < k + (child_slots ss + 1)
    here true e rec = let w = same_Some k p e in omega (arith, w)
    here false e rec = let w = rec e in omega (arith, w)
place_below k f p (Link b ∷ ss) h = let w = place_below (suc k) f p ss h in omega (arith, w)
place_below k f p (Hook b ∷ ss) h = place_below k f p ss h

symbol_place : (f p : ℕ) (y : Symbol) → field_place f (symbol_slots y) ≡ Some p → p < arity y
symbol_place f p Null h = absurd (none-some p h)
symbol_place f p Uninit h = absurd (none-some p h)
symbol_place f p Dangling h = absurd (none-some p h)
symbol_place f p (Ref r) h = absurd (none-some p h)
symbol_place f p (Cell s ds ss) h = let w = place_below 0 f p ss h in omega (arith, w)

-- the place of a field is one of a child
pub field_within : (a : Automaton) (f p : ℕ) → IsRanked a → HasOneTop a
    → field_place f (symbol_slots (top_rule a).symbol) ≡ Some p → p < length (top_rule a).children
field_within a f p ranked one h =
    let r = every_in (IsRankedRule a.states) a.rules (top_rule a) ranked.1 (top_in a one) in
    subst (λ (n : ℕ). p < n) (sym r.2) (symbol_place f p (top_rule a).symbol h)
