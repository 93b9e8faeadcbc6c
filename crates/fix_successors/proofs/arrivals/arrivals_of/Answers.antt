use Rattle.std.proofs.Common.{◌≡◌, ◌∙◌, slice_index_or, true, false, sym, ap}
use Rattle.fix_core.specs.Explorations.{is_head}
use Rattle.fix_successors.proofs.Arriving.{if_settled, if_carried}
use Rattle.fix_successors.proofs.arrivals.arrivals_of.Goals as goal

pub returns-then-is_loop_head : goal.returns-then-is_loop_head
returns-then-is_loop_head g c =
    let t = c.args.task.now in
    let e = c.args.edge.now in
    let head : is_head t.graph e.to ≡ true =
    sym (c.is_loop_head.ensures ∙ ap (λ z. slice_index_or z.heads e.to false) c.graph.ensures)
    ∙ c.if-is_loop_head.true in
    if_settled t.table t.graph t.height e c.args.cases.now c.settle_all.result head c.settle_all.ensures

pub returns-else-is_loop_head : goal.returns-else-is_loop_head
returns-else-is_loop_head g c =
    let t = c.args.task.now in
    let e = c.args.edge.now in
    let head : is_head t.graph e.to ≡ false =
    sym (c.is_loop_head.ensures ∙ ap (λ z. slice_index_or z.heads e.to false) c.graph.ensures)
    ∙ c.if-is_loop_head.false in
    if_carried t.table t.graph t.height e c.args.cases.now c.carry_all.result head c.carry_all.ensures
