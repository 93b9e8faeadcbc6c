use Rattle.std.proofs.Common.{◌≡◌, false, take}
use Rattle.fore_base.specs.Lists.{Every}
use Rattle.sym_step.proofs.leading.has_back.Given as goal

abbrev pub invariant-loop-mark : goal.invariant-loop-mark
invariant-loop-mark l = Every (λ m. m.back ≡ false) (take l.mark-index l.marks)
