-- The roots to which each root refers, as the code of the walk holds them, and how many visits are left.
use Rattle.std.specs.Prelude.{ℕ, zero, suc, ◌+◌, if◌then◌else◌, List, [], ◌∷◌, length}
use Rattle.fa_core.specs.Ways.{has}

-- the roots to which root r refers, in the order of first visit
abbrev pub nth_refs : List (List ℕ) → ℕ → List ℕ
nth_refs [] r = []
nth_refs (rs ∷ rest) zero = rs
nth_refs (rs ∷ rest) (suc r) = nth_refs rest r

-- how many roots are not placed, and how many references these have, those from k on
abbrev pub unplaced : List (List ℕ) → ℕ → List ℕ → ℕ
unplaced [] k placed = 0
unplaced (rs ∷ rest) k placed = (if has k placed then 0 else suc (length rs)) + unplaced rest (suc k) placed

-- how many visits are left at most
abbrev pub weight : List (List ℕ) → List ℕ → List ℕ → ℕ
weight refers todo placed = length todo + unplaced refers 0 placed
