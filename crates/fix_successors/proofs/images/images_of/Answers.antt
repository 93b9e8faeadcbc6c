use Rattle.std.proofs.Common.{◌∙◌, length, get_or, sym, ap, subst}
use Rattle.std.proofs.lemmas.Option.{slice_get-get_or}
use Rattle.fix_core.specs.Explorations.{IsEdge}
use Rattle.fix_core.specs.Listed.{numbers_at}
use Rattle.fix_core.proofs.Lists.{in_at, take_next, take_all}
use Rattle.fix_successors.specs.Exits.{AreNumbers}
use Rattle.fix_successors.proofs.Listing.{images_next, images_all, number_inside}
use Rattle.fix_successors.proofs.images.images_of.Goals as goal

pub edge_at-edge-requires : goal.edge_at-edge-requires
edge_at-edge-requires g c =
    let t = c.args.task.now in
    let due = c.args.due.now in
    let numbers = c.exits_at-number-items.result.now in
    let are : AreNumbers t.graph.edges (length t.graph.edges) due.location numbers =
    subst (AreNumbers t.graph.edges (length t.graph.edges) due.location)
    (sym (c.exits_at-number-items.ensures ∙ ap (λ z. numbers_at z due.location) c.exits.ensures))
    (c.known.ensures.exits.each due.location) in
    rw c.graph.ensures
    (number_inside t.graph due.location numbers c.loop-number.number-index
    (get_or numbers c.loop-number.number-index 0) are
    (slice_get-get_or numbers c.loop-number.number-index 0 c.loop-number-test.true))

pub image_of-requires-clause-listed : goal.image_of-requires-clause-listed
image_of-requires-clause-listed g c =
    let t = c.args.task.now in
    let e = c.edge_at-edge.result.now in
    let number = get_or c.exits_at-number-items.result.now c.loop-number.number-index 0 in
    let is_edge : IsEdge t.graph number e = subst (λ z. IsEdge z number e) c.graph.ensures c.edge_at-edge.ensures in
    λ κs within. in_at t.graph.edges number e is_edge

pub loop-number-preserved : goal.loop-number-preserved
loop-number-preserved g c =
    let t = c.args.task.now in
    let due = c.args.due.now in
    let e = c.edge_at-edge.result.now in
    let numbers = c.exits_at-number-items.result.now in
    let are : AreNumbers t.graph.edges (length t.graph.edges) due.location numbers =
    subst (AreNumbers t.graph.edges (length t.graph.edges) due.location)
    (sym (c.exits_at-number-items.ensures ∙ ap (λ z. numbers_at z due.location) c.exits.ensures))
    (c.known.ensures.exits.each due.location) in
    let number = get_or numbers c.loop-number.number-index 0 in
    let is_edge : IsEdge t.graph number e = subst (λ z. IsEdge z number e) c.graph.ensures c.edge_at-edge.ensures in
    rw c.in_ok-push.ensures.ok
    (images_next t.table t.graph t.height due.location due.forest.forest numbers c.loop-number.number-index number e
    c.loop-number.all c.in_ok-image.image are
    (slice_get-get_or numbers c.loop-number.number-index 0 c.loop-number-test.true)
    (take_next numbers c.loop-number.number-index 0 c.loop-number-test.true) is_edge c.in_ok-image.ensures
    c.loop-number.invariant)

pub returns : goal.returns
returns g c =
    let t = c.args.task.now in
    let due = c.args.due.now in
    let numbers = c.exits_at-number-items.result.now in
    let are : AreNumbers t.graph.edges (length t.graph.edges) due.location numbers =
    subst (AreNumbers t.graph.edges (length t.graph.edges) due.location)
    (sym (c.exits_at-number-items.ensures ∙ ap (λ z. numbers_at z due.location) c.exits.ensures))
    (c.known.ensures.exits.each due.location) in
    images_all t.table t.graph t.height due.location due.forest.forest numbers c.loop-number.all are
    c.loop-number.invariant.0
    (c.loop-number.invariant.1 ∙ take_all numbers c.loop-number.number-index c.loop-number-test.false)
