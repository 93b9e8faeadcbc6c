use Rattle.std.proofs.Common.{take}
use Rattle.fore_base.specs.Lists.{Every}
use Rattle.fa_filling.specs.Ruled.{EdgeOnce}
use Rattle.fa_filling.proofs.giving.are_each_once.Given as goal

abbrev pub invariant-loop-edge : goal.invariant-loop-edge
invariant-loop-edge l = Every (EdgeOnce l.face l.rules) (take l.edge-index l.edges)
