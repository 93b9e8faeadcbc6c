use Rattle.fix_verdict.proofs.Judging.{never_faults}
use Rattle.fix_verdict.proofs.laws.closed_is_safe.Goals as goal

pub returns : goal.returns
returns c = λ low shapes nodes closed choices n h.
    never_faults c.args.table.now c.args.program.now c.args.mode c.args.graph.now (c.graphs_agree.ensures low)
    shapes nodes closed choices n h
