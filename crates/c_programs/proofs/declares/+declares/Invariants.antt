use Rattle.std.proofs.Common.{◌≡◌, ◌++◌, drop}
use Rattle.c_types.specs.Bodies.{body_declares}
use Rattle.c_programs.proofs.declares.«+declares».Given as goal

abbrev pub invariant-add_body-loop-stmt : goal.invariant-add_body-loop-stmt
invariant-add_body-loop-stmt l = l.found ++ body_declares (drop l.stmt-index l.stmts)
    ≡ l.initial.found ++ body_declares l.stmts
