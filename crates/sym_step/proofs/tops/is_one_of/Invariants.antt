use Rattle.std.proofs.Common.{◌≡◌, drop}
use Rattle.fa_core.specs.Ways.{has}
use Rattle.sym_step.proofs.tops.is_one_of.Given as goal

abbrev pub invariant-loop-other : goal.invariant-loop-other
invariant-loop-other l = has l.state (drop l.other-index l.states) ≡ has l.state l.states
