-- A fold as it is recorded.
use Rattle.std.specs.Prelude.{◌≡◌, ℕ, Option}
use Rattle.fa_core.specs.declared.folds.FoldStep.{FoldStep}

-- the step is of this box, at this input and output
abbrev pub IsStepAt : ℕ → ℕ → Option ℕ → FoldStep → Type 0
IsStepAt n i out x = (x.box_no ≡ n) × (x.input ≡ i) × (x.output ≡ out)
