use Rattle.std.proofs.Common.{◌↔◌, drop}
use Rattle.fa_core.specs.Rearranged.{RisesFrom}
use Rattle.fa_filling.proofs.covering.are_rising_from.Given as goal

abbrev pub invariant-loop-number : goal.invariant-loop-number
invariant-loop-number l = RisesFrom l.last (drop l.number-index l.rest) ↔ RisesFrom l.first l.rest
