use Rattle.std.proofs.Common.{◌≤◌, length}
use Rattle.std.proofs.lemmas.Result.{IfOk-at_ok}
use Rattle.fore_base.proofs.ListLemmas.{every_in}
use Rattle.c_cfg.specs.Ranges.{IsEdgeOf}
use Rattle.fix_successors.proofs.Posting.{edge_fits, post_is}
use Rattle.fix_successors.proofs.posts.post_of.Goals as goal

pub post-requires-clause-fits : goal.post-requires-clause-fits
post-requires-clause-fits g c = λ κs within.
    let t = c.args.task.now in
    edge_fits t.table t.graph c.args.due.now.forest c.args.edge.now c.requires.normal
    (every_in (IsEdgeOf t.graph) t.graph.edges c.args.edge.now c.known.ensures.edges c.requires.listed)
    c.known.ensures.shapes

pub returns : goal.returns
returns g c =
    let t = c.args.task.now in
    let f = c.in_ok-made.ensures in
    let s = c.args.due.now.forest in
    post_is t.table t.graph s c.args.edge.now c.in_ok-made.made c.requires.normal
    (rw c.table-2.ensures at f.all) (rw c.table-2.ensures at f.keeps) (rw c.table-2.ensures at f.true_cases)
    (rw c.table-2.ensures at f.bads) f.canonical f.reduced f.face f.vars
    (rw c.as_slice.ensures at c.are_ranked.ensures) f.plain f.apart
    (λ q. IfOk-at_ok (λ z. length z.next ≤ 1) c.in_ok-made.was (c.post.ensures.quiet q)) f.bad_face
