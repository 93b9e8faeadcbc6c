use Rattle.std.proofs.Common.{◌+◌, drop, ap, subst}
use Rattle.fix_successors.specs.Exits.{Rises}
use Rattle.fix_successors.specs.Images.{IsImageAt, edge_numbers}
use Rattle.fix_engine.specs.inner.Taking.{IsStage, IsTakenEdge}
use Rattle.fix_core.proofs.Lists.{at_item, drop_at, drop_all, in_at, every_in}
use Rattle.fix_engine.proofs.Growing.{grows_then}
use Rattle.fix_engine.proofs.TakenUp.{stage_mid, stage_next, stage_done, image_more, edge_ends}
use Rattle.fix_engine.proofs.taking.take_node.Goals as goal

pub take_edge-requires-clause-mid : goal.take_edge-requires-clause-mid
take_edge-requires-clause-mid g c =
    let t = c.args.task.now in
    let x = c.next-item.result in
    let is = at_item c.args.images.now c.loop-next.next-index x c.loop-next-test.true c.next-item.is in
    let left = ap edge_numbers (drop_at c.args.images.now c.loop-next.next-index x is) in
    λ κs within. stage_mid t.table t.graph t.height c.loop-next.nodes c.args.at x.edge
    (edge_numbers (drop (c.loop-next.next-index + 1) c.args.images.now))
    (subst Rises left c.loop-next.invariant.1)
    (subst (IsStage t.table t.graph t.height c.loop-next.nodes c.args.at) left c.loop-next.invariant.0)

pub take_edge-requires-clause-image : goal.take_edge-requires-clause-image
take_edge-requires-clause-image g c =
    let t = c.args.task.now in
    let x = c.next-item.result in
    let is = at_item c.args.images.now c.loop-next.next-index x c.loop-next-test.true c.next-item.is in
    λ κs within. image_more t.table t.graph t.height c.args.nodes.now c.loop-next.nodes c.args.at x
    c.loop-next.invariant.3
    (every_in (IsImageAt t.table t.graph t.height c.args.nodes.now c.args.at) c.args.images.now x c.requires.images
    (in_at c.args.images.now c.loop-next.next-index x is))

pub returns-in_default : goal.returns-in_default
returns-in_default g c =
    let t = c.args.task.now in
    edge_ends t.table t.graph t.height c.args.nodes.now c.loop-next.nodes c.take_edge.new.nodes c.args.at
    c.next-item.result.edge t.budget c.in_ok-ended.ended c.in_default.not-All
    c.loop-next.invariant.0.explored c.loop-next.invariant.0.done c.loop-next.invariant.2 c.in_ok-ended.ensures

pub loop-next-preserved : goal.loop-next-preserved
loop-next-preserved g c =
    let t = c.args.task.now in
    let x = c.next-item.result in
    let is = at_item c.args.images.now c.loop-next.next-index x c.loop-next-test.true c.next-item.is in
    let left = ap edge_numbers (drop_at c.args.images.now c.loop-next.next-index x is) in
    let rises = subst Rises left c.loop-next.invariant.1 in
    let taken =
    subst
    (IsTakenEdge t.table t.graph t.height c.loop-next.nodes c.args.at x.edge t.budget c.take_edge.new.nodes)
    c.in-All.is c.in_ok-ended.ensures in (
      stage_next t.table t.graph t.height c.loop-next.nodes c.take_edge.new.nodes c.args.at x.edge
          (edge_numbers (drop (c.loop-next.next-index + 1) c.args.images.now)) rises
          (subst (IsStage t.table t.graph t.height c.loop-next.nodes c.args.at) left c.loop-next.invariant.0) taken.0,
      rises.1,
      taken.1,
      grows_then c.args.nodes.now c.loop-next.nodes c.take_edge.new.nodes c.loop-next.invariant.3 taken.0.grows,
    )

pub returns : goal.returns
returns g c =
    let t = c.args.task.now in (
      stage_done t.table t.graph t.height c.loop-next.nodes c.args.at t.budget
          (subst (IsStage t.table t.graph t.height c.loop-next.nodes c.args.at)
          (ap edge_numbers (drop_all c.args.images.now c.loop-next.next-index c.loop-next-test.false))
          c.loop-next.invariant.0) c.loop-next.invariant.2,
      c.loop-next.invariant.3,
    )
