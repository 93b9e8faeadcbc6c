use Rattle.std.proofs.Common.{◌↔◌, drop}
use Rattle.fore_base.specs.Lists.{IsIn}
use Rattle.fa_height.proofs.joining.is_one_of.Given as goal

abbrev pub invariant-loop-other : goal.invariant-loop-other
invariant-loop-other l = IsIn l.state (drop l.other-index l.states) ↔ IsIn l.state l.states
