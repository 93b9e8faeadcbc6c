use Rattle.fore_base.proofs.ListLemmas.{drop_item}
use Rattle.fa_core.proofs.Numbers.{grow_all}
use Rattle.fa_core.proofs.cells.cell_roots.Goals as goal

pub loop-edge-preserved : goal.loop-edge-preserved
loop-edge-preserved c =
    let e = drop_item c.args.edges.now c.loop-edge.edge-index c.edge-item.result c.loop-edge-test.true c.edge-item.is in
    let h = rw c.as_slice.ensures at c.in_ok-add_roots.ensures in
    let k = rw e at c.loop-edge.invariant in
    rw h (grow_all _ _ _ _ k)
