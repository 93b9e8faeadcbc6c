-- Marks of states.
use Rattle.std.specs.Prelude.{ℕ, Bool, true, List, [], ◌∷◌, slice_set}

-- the marks with these states marked too
abbrev pub mark_all : List Bool → List ℕ → List Bool
mark_all marks [] = marks
mark_all marks (q ∷ qs) = mark_all (slice_set marks q true) qs
