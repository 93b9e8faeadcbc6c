use Rattle.std.proofs.Common.{subst, sym}
use Rattle.c_cfg.specs.declared.graph.Instr.{Instr}
use Rattle.c_cfg.specs.Edges.{choice_of}
use Rattle.sym_transfer.specs.Edited.{Becomes}
use Rattle.sym_transfer.proofs.editing.edited.Goals as goal

pub returns-in-Stop-clause-edited : goal.returns-in-Stop-clause-edited
returns-in-Stop-clause-edited c = λ T table.
    let F = c.args.forest.now in
    let x = choice_of c.args.edge.now.choice in
    subst (λ (i : Instr). Becomes F.face T F.forest i x c.stopped.result) (sym c.in-Stop.is)
    (c.stopped.ensures.edited F.face T F.forest x)

pub returns-in-Stop-clause-form : goal.returns-in-Stop-clause-form
returns-in-Stop-clause-form c = c.stopped.ensures.form c.args.forest.now
