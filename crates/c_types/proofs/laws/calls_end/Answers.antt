use Rattle.std.proofs.Common.{◌≡◌, true, length, slice_get, ap, ◌∙◌, subst}
use Rattle.c_types.specs.Program.{Program, is_typed}
use Rattle.c_types.specs.Control.{closed_after, body_within}
use Rattle.c_types.proofs.DeepCalls.{program_deep, call_items_are}
use Rattle.c_types.proofs.Layers.{by-Call}
use Rattle.c_types.proofs.OwnEnds.{call_hides}
use Rattle.c_types.proofs.laws.calls_end.Goals as goal

pub returns-clause-deeper : goal.returns-clause-deeper
returns-clause-deeper c =
    program_deep c.args.program.now (subst (λ (p : Program). is_typed p ≡ true) c.program.view_is c.program.invariant)

pub returns-clause-called : goal.returns-clause-called
returns-clause-called c =
    call_items_are c.args.program.now (subst (λ (p : Program). is_typed p ≡ true) c.program.view_is c.program.invariant)

pub returns-clause-hides : goal.returns-clause-hides
returns-clause-hides c = λ own f args target line r.
    let funcs = c.args.program.now.funcs in
    let deep = length funcs in
    ap (closed_after own 0) (by-Call funcs (body_within funcs deep) f args target line r)
    ∙ call_hides funcs deep (slice_get funcs f) args target line own r
