use Rattle.std.proofs.Common.{◌≡◌, ◌++◌, drop}
use Rattle.fa_sound.specs.inner.Owned.{owns_of}
use Rattle.fa_sound.proofs.owning.owns_of.Given as goal

abbrev pub invariant-loop-place : goal.invariant-loop-place
invariant-loop-place l = l.owns ++ owns_of (drop l.place l.autos) (drop l.place l.all) ≡ owns_of l.autos l.all
