-- The least place at which something can be folded.
use Rattle.std.specs.Prelude.{◌≡◌, ◌⊎◌, ◌<◌, ℕ, Option}
use Rattle.fa_core.specs.Boxes.{Boxes}
use Rattle.fa_core.specs.LeastFolds.{CanFold, OutputUpTo}
use Rattle.fa_core.specs.declared.forest.Forest.{Forest}
use Rattle.fa_fold.specs.declared.least.FoldSite.{FoldSite}

-- the place comes no later than this box, input and output
abbrev pub IsSiteUpTo : FoldSite → ℕ → ℕ → Option ℕ → Type 0
IsSiteUpTo x n i o = (x.box_no < n) ⊎ ((x.box_no ≡ n) × ((x.input < i) ⊎ ((x.input ≡ i) × OutputUpTo x.output o)))

-- the box can be folded there, and it is the least box, input and output that can be
pub record IsLeastSite (T : Boxes) (F : Forest) (x : FoldSite) : Type 0 where
  pub can : CanFold T F x.box_no x.input x.output
  pub least : (n i : ℕ) (o : Option ℕ) → CanFold T F n i o → IsSiteUpTo x n i o
