use Rattle.std.proofs.Common.{◌≡◌, drop}
use Rattle.fa_sound.specs.inner.Doubled.{twice_from}
use Rattle.fa_sound.proofs.doubling.has_twice_from.Given as goal

abbrev pub invariant-loop-number : goal.invariant-loop-number
invariant-loop-number l = twice_from l.last (drop l.number-index l.rest) ≡ twice_from l.first l.rest
