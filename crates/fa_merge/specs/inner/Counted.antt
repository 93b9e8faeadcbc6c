-- References to a root, counted by signatures.
use Rattle.std.specs.Prelude.{ℕ, ◌+◌, List, [], ◌∷◌}
use Rattle.fa_core.specs.declared.signature.Signature.{Signature}
use Rattle.fa_merge.specs.Counts.{marks_count}

-- the sum over the components
abbrev pub sum_count : ℕ → List Signature → ℕ
sum_count r [] = 0
sum_count r (s ∷ ss) = marks_count r s.refs + sum_count r ss
