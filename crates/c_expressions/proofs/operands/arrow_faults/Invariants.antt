use Rattle.std.proofs.Common.{◌≡◌, drop}
use Rattle.c_typing.specs.Sites.{arrow_sites}
use Rattle.c_expressions.specs.Meeting.{met}
use Rattle.c_expressions.proofs.operands.arrow_faults.Given as goal

abbrev pub invariant-loop-arrow : goal.invariant-loop-arrow
invariant-loop-arrow l = met l.tables l.found (arrow_sites l.tables l.meaning (drop l.arrow-index l.arrows))
    ≡ met l.tables l.initial.found (arrow_sites l.tables l.initial.meaning l.arrows)
