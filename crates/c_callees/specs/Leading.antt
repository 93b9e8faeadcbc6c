-- Which functions lead to the first ones.
use Rattle.std.specs.Prelude.{◌≡◌, ℕ, Bool, List, length, Some, slice_get}
use Rattle.fore_base.specs.Marks.{MarksOf}
use Rattle.c_calls.specs.Calls.{Leads}

-- for some functions, the first ones, marks of those that lead to them
pub record AreLeading (calls : List (List ℕ)) (leading : List (List Bool)) : Type 0 where
  pub each : (to : ℕ) (marks : List Bool) → slice_get leading to ≡ Some marks
      → MarksOf (length calls) (λ f. Leads calls f to) marks
