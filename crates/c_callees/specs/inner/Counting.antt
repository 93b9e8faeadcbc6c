-- Counting places up to a limit.
use Rattle.std.specs.Prelude.{ℕ, zero, suc, List, [], ◌∷◌, Option, Some, None}
use Rattle.fore_base.specs.declared.place.Place.{Place}
use Rattle.c_callees.specs.declared.counting.Count.{Count}

-- after one place more: it is the one beyond the limit, if no more may come
abbrev pub passed_from : ℕ → Place → Count
passed_from zero at = record { left = 0; beyond = Some at }
passed_from (suc n) at = record { left = n; beyond = None }

abbrev pub passed_as : Option Place → ℕ → Place → Count
passed_as (Some p) n at = record { left = n; beyond = Some p }
passed_as None n at = passed_from n at

abbrev pub passed : Count → Place → Count
passed c at = passed_as c.beyond c.left at

-- after several places
unfoldable pub all_passed : Count → List Place → Count
all_passed c [] = c
all_passed c (at ∷ ats) = all_passed (passed c at) ats
