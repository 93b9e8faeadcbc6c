use Rattle.std.proofs.Common.{◌≡◌, ◌∙◌, slice_get, Some, sym, ap, subst}
use Rattle.std.specs.Option.{option_copied}
use Rattle.fore_base.proofs.ListLemmas.{every_in}
use Rattle.c_cfg.specs.Ranges.{IsEdgeOf}
use Rattle.fix_core.proofs.Lists.{none_first}
use Rattle.fix_successors.specs.Images.{IsTrueFault}
use Rattle.fix_successors.proofs.Imaged.{true_fault, post_normal, successors}
use Rattle.fix_successors.proofs.images.image_of.Goals as goal

pub returns-in-Some : goal.returns-in-Some
returns-in-Some g c =
    let t = c.args.task.now in
    let F = c.args.due.now.forest.forest in
    let e = c.args.edge.now in
    let p = c.in_ok-post.post in
    let first = c.in-Some.first.now in
    let is : slice_get p.faults 0 ≡ Some first = sym c.get.ensures.value ∙ ap (λ z. option_copied z) c.in-Some.is in
    subst (IsTrueFault t.table t.graph F e) (sym c.in_ok-bad.ensures.same)
    (true_fault t.table t.graph F e p first c.in_ok-post.ensures is c.copy_bad.ensures.sound)

pub arrivals_of-requires-clause-location : goal.arrivals_of-requires-clause-location
arrivals_of-requires-clause-location g c =
    let t = c.args.task.now in
    λ κs within.
    (every_in (IsEdgeOf t.graph) t.graph.edges c.args.edge.now c.known.ensures.edges c.requires.listed).to

pub arrivals_of-requires-clause-normal : goal.arrivals_of-requires-clause-normal
arrivals_of-requires-clause-normal g c =
    let t = c.args.task.now in
    λ κs within. rw c.as_slice.ensures
    (post_normal t.table t.graph c.args.due.now.forest.forest c.args.edge.now c.in_ok-post.post c.in_ok-post.ensures)

pub returns : goal.returns
returns g c =
    let t = c.args.task.now in
    let F = c.args.due.now.forest.forest in
    let p = c.in_ok-post.post in
    successors t.table t.graph t.height F c.args.edge.now p c.in_ok-states.states c.in_ok-post.ensures
    (none_first p.faults (sym c.get.ensures.value ∙ ap (λ z. option_copied z) c.in_default.is))
    (rw (sym c.as_slice.ensures) (c.in_ok-states.ensures F))
