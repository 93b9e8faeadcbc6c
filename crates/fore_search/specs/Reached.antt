-- What is reached by a table whose row of a number holds the numbers to which it leads at once.
use Rattle.std.specs.Prelude.{ℕ, List, [], slice_index_or}
use Rattle.fore_base.specs.Lists.{IsIn}

-- the numbers to which q leads at once; none where the table has no such row
abbrev pub row : List (List ℕ) → ℕ → List ℕ
row table q = slice_index_or table q []

-- the numbers of `from`, and those to which these lead
pub data IsReached (table : List (List ℕ)) (from : List ℕ) : ℕ → Type 0 where
  start : {r : ℕ} → IsIn r from → IsReached table from r
  next : {r : ℕ} (q : ℕ) → IsReached table from q → IsIn r (row table q) → IsReached table from r
