-- Forests without knots, and what they are made into.
use Rattle.std.specs.Prelude.{ℕ}
use Rattle.fa_core.specs.Canonical.{IsCanonical}
use Rattle.fa_core.specs.Covering.{Reduced}
use Rattle.fa_core.specs.Filled.{IsSound}
use Rattle.fa_merge.specs.Reached.{AreAllReached}
use Rattle.fa_order.specs.Placing.{DoEdgesGive}
use Rattle.fa_sound.specs.Soundness.{SoundForest}
use Rattle.fa_canon.specs.inner.Knots.{IsReady}
use Rattle.fa_canon.specs.inner.Steps.{IsPiece}

-- a sound forest each root of which is reached is regrouped into F
pub record ComesFromReached (F : SoundForest) : Type 0 where
  pub from : SoundForest
  pub sound : IsSound from.face from.forest
  pub gives : DoEdgesGive from.face from.forest
  pub reached : AreAllReached from.face from.forest
  pub piece : IsPiece from F

-- the forest has one rule at each root and no knots in the trees of its first n roots, and each root is reached
abbrev pub CanFinish : ℕ → SoundForest → Type 0
CanFinish n F = IsReady n n 0 F × ComesFromReached F

-- G is canonical, and its components are reduced
abbrev pub IsFinished : SoundForest → SoundForest → Type 0
IsFinished F G = IsCanonical G.face G.forest × Reduced G.forest
