use Rattle.std.proofs.Common.{◌≡◌, ◌∙◌, length, slice_get, Some, ap, subst, arith}
use Rattle.fore_base.proofs.ListLemmas.{every_in}
use Rattle.c_cfg.specs.Ranges.{IsEdgeOf}
use Rattle.fix_successors.specs.Exits.{AreExits}
use Rattle.fix_successors.proofs.LocationEdges.{exits_next}
use Rattle.fix_core.proofs.Lists.{at_item, in_at}
use Rattle.fix_successors.proofs.exits.exits_of.Goals as goal

pub loop-number-preserved : goal.loop-number-preserved
loop-number-preserved c =
    let g = c.args.graph.now in
    let e = c.edge-item.result in
    let same : c.as_slice-edge-items.result.now ≡ g.edges = c.as_slice-edge-items.ensures
    ∙ ap (λ z. z.edges) c.graph.view_is in
    let is : slice_get g.edges c.loop-number.number ≡ Some e =
    subst (λ z. slice_get z c.loop-number.number ≡ Some e) same
    (at_item c.as_slice-edge-items.result.now c.loop-number.number e c.loop-number-test.true c.edge-item.is) in
    rw c.in_ok-push_at.ensures.ok
    (exits_next g c.loop-number.number e c.loop-number.exits is
    (every_in (IsEdgeOf g) g.edges e c.requires (in_at g.edges c.loop-number.number e is)).from
    c.loop-number.invariant)

pub returns-clause-exits : goal.returns-clause-exits
returns-clause-exits c =
    let g = c.args.graph.now in
    let same : c.as_slice-edge-items.result.now ≡ g.edges = c.as_slice-edge-items.ensures
    ∙ ap (λ z. z.edges) c.graph.view_is in
    let n : c.loop-number.number ≡ length g.edges =
    omega (arith, c.loop-number-test.false, c.loop-number.auto.number-end, ap length same) in
    subst (λ z. AreExits g z c.loop-number.exits) n c.loop-number.invariant
