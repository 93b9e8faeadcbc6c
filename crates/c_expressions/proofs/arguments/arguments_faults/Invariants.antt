use Rattle.std.proofs.Common.{◌≡◌, drop}
use Rattle.c_typing.specs.Sites.{arguments_sites}
use Rattle.c_expressions.specs.Meeting.{met}
use Rattle.c_expressions.proofs.arguments.arguments_faults.Given as goal

abbrev pub invariant-loop-number : goal.invariant-loop-number
invariant-loop-number l =
    met l.tables l.found (arguments_sites l.tables l.scope (drop l.number l.kinds) (drop l.number l.operands))
    ≡ met l.tables l.initial.found (arguments_sites l.tables l.scope l.kinds l.operands)
