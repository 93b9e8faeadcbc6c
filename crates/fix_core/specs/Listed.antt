-- Lists of numbers, one for each place.
use Rattle.std.specs.Prelude.{ℕ, List, [], slice_index_or}

-- the list at a place; none past the end
abbrev pub numbers_at : List (List ℕ) → ℕ → List ℕ
numbers_at lists place = slice_index_or lists place []
