-- A search by a list of numbers whose rows are still to be looked at.
use Rattle.std.specs.Prelude.{◌≡◌, ◌⊎◌, ℕ, ◌+◌, Bool, List, length}
use Rattle.fore_base.specs.Lists.{IsIn, Every}
use Rattle.fore_base.specs.Marks.{IsMarked, marked_count}
use Rattle.fore_search.specs.Reached.{row, IsReached}

-- the numbers have marks, and those that had none before are to be looked at
pub record Visits (numbers : List ℕ) (old : List Bool) (todo : List ℕ) (new : List Bool) (later : List ℕ) : Type 0 where
  pub long : length new ≡ length old
  pub stay : (q : ℕ) → IsMarked old q → IsMarked new q
  pub all : Every (IsMarked new) numbers
  pub only : (q : ℕ) → IsMarked new q → IsMarked old q ⊎ (IsIn q numbers × IsIn q later)
  pub kept : (q : ℕ) → IsIn q todo → IsIn q later
  pub due : (q : ℕ) → IsIn q later → IsIn q todo ⊎ IsMarked new q
  pub even : length later + marked_count old ≡ length todo + marked_count new

-- in the midst of the search: each marked number is reached, and where its row was looked at, so are those in it
pub record Searching (table : List (List ℕ)) (from : List ℕ) (marks : List Bool) (todo : List ℕ) : Type 0 where
  pub long : length marks ≡ length table
  pub only : (q : ℕ) → IsMarked marks q → IsReached table from q
  pub first : Every (IsMarked marks) from
  pub due : (q : ℕ) → IsIn q todo → IsMarked marks q
  pub closed : (q : ℕ) → IsMarked marks q → IsIn q todo ⊎ Every (IsMarked marks) (row table q)
