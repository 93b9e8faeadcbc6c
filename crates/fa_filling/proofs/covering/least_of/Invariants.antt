use Rattle.std.proofs.Common.{◌≡◌, drop}
use Rattle.fa_core.specs.Filled.{least_of}
use Rattle.fa_filling.proofs.covering.least_of.Given as goal

abbrev pub invariant-loop-other : goal.invariant-loop-other
invariant-loop-other l = least_of l.least (drop l.other-index l.others) ≡ least_of l.first l.others
