use Rattle.std.proofs.Common.{rules, ◌≡◌, refl, ap}
use Rattle.fore_base.specs.declared.store.Store.{Store}
use Rattle.c_types.specs.Runs.{empty_store}
use Rattle.c_walks.proofs.EdgeLemmas.{run_rest}
use Rattle.c_walks.proofs.graph_run.graph_run.Goals as goal

pub go_all-requires-clause-begun : goal.go_all-requires-clause-begun
go_all-requires-clause-begun c =
    let g = c.args.graph.now in
    let heap : c.in_ok-heap.heap ≡ empty_store g.ptrs g.datums = search rules in
    run_rest g c.args.choices.now c.args.limit c.args.limit c.in_ok-heap.heap refl heap

pub go_all-requires-clause-next : goal.go_all-requires-clause-next
go_all-requires-clause-next c =
    let g = c.args.graph.now in
    let heap : c.in_ok-heap.heap ≡ empty_store g.ptrs g.datums = search rules in
    ap (λ (t : Store). t.next) heap
