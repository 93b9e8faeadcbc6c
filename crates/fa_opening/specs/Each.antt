-- Forests that are made of those of a list.
use Rattle.std.specs.Prelude.{List}
use Rattle.fore_base.specs.Lists.{IsIn}
use Rattle.fa_sound.specs.Soundness.{SoundForest}

-- the relation holds of s and some item of the list
abbrev pub OfSome : (SoundForest → SoundForest → Type 0) → List SoundForest → SoundForest → Type 0
OfSome R parts s = (S : SoundForest) × IsIn S parts × R S s
