use Rattle.std.proofs.Common.{take}
use Rattle.fore_base.specs.Lists.{Every}
use Rattle.fa_core.specs.Filled.{IsRoot}
use Rattle.fa_filling.proofs.choosing.are_roots.Given as goal

abbrev pub invariant-loop-target : goal.invariant-loop-target
invariant-loop-target l = Every (IsRoot l.limit) (take l.target-index l.targets)
