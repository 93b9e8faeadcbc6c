use Rattle.std.proofs.Common.{◌<◌, take}
use Rattle.fore_base.specs.Lists.{Every}
use Rattle.c_cfg.proofs.ranges.are_below.Given as goal

abbrev pub invariant-loop-number : goal.invariant-loop-number
invariant-loop-number l = Every (λ x. x < l.limit) (take l.number-index l.numbers)
