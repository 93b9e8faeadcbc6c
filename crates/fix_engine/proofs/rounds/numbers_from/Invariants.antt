use Rattle.std.proofs.Common.{◌≡◌, length}
use Rattle.fix_engine.specs.inner.Rounds.{AreNumbers}
use Rattle.fix_engine.proofs.rounds.numbers_from.Given as goal

abbrev pub invariant-loop-place : goal.invariant-loop-place
invariant-loop-place l = (length l.numbers ≡ l.place) × AreNumbers l.at l.numbers
