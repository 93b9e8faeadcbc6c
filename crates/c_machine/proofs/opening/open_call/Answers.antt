use Rattle.std.proofs.Common.{◌≡◌, Some, slice_get, ap, sym, ◌∙◌}
use Rattle.c_types.specs.Control.{Items, Enter, Exit, opened}
use Rattle.c_types.specs.Program.{Program}
use Rattle.c_machine.specs.Pending.{pending, block, in_order}
use Rattle.c_machine.proofs.Stacks.{of_call}
use Rattle.c_machine.proofs.opening.open_call.Goals as goal

pub returns-in-Some-clause-left : goal.returns-in-Some-clause-left
returns-in-Some-clause-left c =
    let p = c.args.program.now in
    let r : Items = pending c.args.stack.now.items in
    let at : slice_get p.funcs c.args.called ≡ Some c.in-Some.func.now =
    sym (ap (λ (q : Program). slice_get q.funcs c.args.called) c.program.view_is) ∙ sym c.in-Some.ensures.value in
    let law = of_call p.funcs c.in-Some.func.now c.args.called c.args.args.now c.args.to.now c.args.line r
    (c.calls_end.ensures.called c.args.called c.in-Some.func.now c.args.args.now c.args.to.now c.args.line r at) in
    let g = c.in-Some.func.now in
    let rest : Items = Exit g.result g.params c.args.to.now c.args.line r in
    let put : pending c.put-in-Some.new.stack.items ≡ in_order p.funcs g.body rest =
    c.put-in-Some.ensures.pending
    ∙ ap (block c.body_of.result) c.put.ensures.pending
    ∙ ap (λ (q : Program). in_order q.funcs c.body_of.result.stmts.now rest) c.body_of.ensures.0
    ∙ ap (λ ss. in_order p.funcs ss rest) c.body_of.ensures.1 in
    rw law (ap (λ is. opened (Enter g.params c.args.args.now c.args.line is)) put)
