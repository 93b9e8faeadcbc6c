-- Sets of numbers, kept as one mark for each number.
use Rattle.std.specs.Prelude.{◌≡◌, ℕ, ◌+◌, Bool, true, false, ◌&&◌, ◌||◌, List, [], ◌∷◌, length, slice_index_or}

-- the number has a mark
abbrev pub IsMarked : List Bool → ℕ → Type 0
IsMarked marks q = slice_index_or marks q false ≡ true

-- there are n marks, and they say of which numbers P holds
pub record MarksOf (n : ℕ) (P : ℕ → Type 0) (marks : List Bool) : Type 0 where
  pub long : length marks ≡ n
  pub only : (q : ℕ) → IsMarked marks q → P q
  pub each : (q : ℕ) → P q → IsMarked marks q

-- all the numbers have marks
abbrev pub all_marked : List Bool → List ℕ → Bool
all_marked marks [] = true
all_marked marks (q ∷ qs) = slice_index_or marks q false && all_marked marks qs

-- one of the numbers has a mark
abbrev pub some_marked : List Bool → List ℕ → Bool
some_marked marks [] = false
some_marked marks (q ∷ qs) = slice_index_or marks q false || some_marked marks qs

-- the sets are as many as the numbers, and each number has a mark in the set in its place
abbrev pub marked_each : List ℕ → List (List Bool) → Bool
marked_each [] [] = true
marked_each [] (marks ∷ sets) = false
marked_each (q ∷ qs) [] = false
marked_each (q ∷ qs) (marks ∷ sets) = slice_index_or marks q false && marked_each qs sets

-- how many numbers have marks
abbrev pub marked_count : List Bool → ℕ
marked_count [] = 0
marked_count (true ∷ marks) = marked_count marks + 1
marked_count (false ∷ marks) = marked_count marks
