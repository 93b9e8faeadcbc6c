use Rattle.std.proofs.Common.{◌≡◌, ◌++◌, drop}
use Rattle.c_typing.specs.Programs.{args_of}
use Rattle.c_making.proofs.calling.args_of.Given as goal

abbrev pub invariant-loop-number : goal.invariant-loop-number
invariant-loop-number l =
    l.args ++ args_of l.tables l.scope (drop l.number l.kinds) (drop l.number l.operands)
    ≡ args_of l.tables l.scope l.kinds l.operands
