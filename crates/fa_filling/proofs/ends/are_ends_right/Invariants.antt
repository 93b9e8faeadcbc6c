use Rattle.std.proofs.Common.{take}
use Rattle.fore_base.specs.Lists.{Every}
use Rattle.fa_filling.specs.Ruled.{EdgeAlways}
use Rattle.fa_filling.proofs.ends.are_ends_right.Given as goal

abbrev pub invariant-loop-edge : goal.invariant-loop-edge
invariant-loop-edge l = Every (EdgeAlways l.face l.topss l.rules l.shape) (take l.edge-index l.edges)
