use Rattle.std.proofs.Common.{◌≡◌, take}
use Rattle.fa_sound.specs.inner.Owned.{given_of}
use Rattle.fa_sound.proofs.owning.given_at.Given as goal

abbrev pub invariant-loop-marks : goal.invariant-loop-marks
invariant-loop-marks l = l.fields ≡ given_of (take l.marks-index l.owns) l.root
