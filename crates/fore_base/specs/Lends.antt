-- What a list lends where one of its items is changed in place.
use Rattle.std.specs.Prelude.{ℕ, List, slice_set}
use Rattle.std.specs.Borrow.{Lends, MutBor, Fml}
use denote.RattleType.{RattleType}
use Rattle.fore_base.specs.contracts.list.List.{the_row}

-- the list ends with the last value written through the result at this place
abbrev pub lends_at : (R : RattleType) → MutBor (List R.Denot) → ℕ → MutBor R.Denot → Fml
lends_at R list at result = Lends (the_row R) R list result (λ written. slice_set list.now at written)
