use Rattle.std.proofs.Common.{take}
use Rattle.fa_lift.specs.inner.Lifting.{MarksProvide}
use Rattle.fa_lift.proofs.lifting_owners.do_provide.Given as goal

abbrev pub invariant-loop-mark : goal.invariant-loop-mark
invariant-loop-mark l = MarksProvide l.root l.field (take l.mark-index l.marks) → ⊥
