use Rattle.std.proofs.Common.{◌<◌, take}
use Rattle.fore_base.specs.Lists.{Every}
use Rattle.room_automata.proofs.making.are_below.Given as goal

abbrev pub invariant-loop-number : goal.invariant-loop-number
invariant-loop-number l = Every (λ n. n < l.limit) (take l.number-index l.numbers)
