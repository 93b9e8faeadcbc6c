use Rattle.std.proofs.Common.{rules, ◌≡◌, slice_get, Some, None, ◌++◌, ◌+◌, ◌<◌, [], OnOk, length, drop}
use Rattle.std.proofs.lemmas.Result.{on_ok_weaker}
use Rattle.c_lower.specs.inner.Emitting.{in_loop, in_call, closed, close_edges, reached, wide_stmt}
use Rattle.c_lower.specs.inner.Sites.{stmt_edges, all_edges, span_of, branch_test, branch_spans, loop_test, loop_spans}
use Rattle.c_lower.specs.inner.Sites.{do_span, do_test, group_spans, inside_each, call_spans, enter_edges, exit_edges}
use Rattle.c_lower.proofs.Adding.{branch_added, for_added, while_added, do_added, group_added, room_left, one_added}
use Rattle.c_lower.proofs.Adding.{call_added, none_added, none_left}
use Rattle.c_lower.proofs.Falling.{call_falls}
use Rattle.c_lower.proofs.site.Site.+stmt.Goals as goal

pub add_all-loop-at-preserved : goal.add_all-loop-at-preserved
add_all-loop-at-preserved t c =
    let site = c.args.self.now in let body = c.args.body.now in let at = c.loop-at.at in let s =
    c.index-body-at.result in
    let h : at < length body = c.loop-at-test.true in
    let n : c.in_ok-next.next ≡ c.loop-at.from + wide_stmt site.funcs.now site.calls site.counts.ptrs site.counts.datums
    s = search rules in
    let inner : c.rest_at-inner.result.now ≡ inside_each site c.args.around.now (drop (at + 1) body) =
    c.rest_at-inner.ensures in
    let now : c.add_stmt.new.edges ≡ c.loop-at.edges
    ++ stmt_edges site s c.rest_at-inner.result.now (span_of c.loop-at.from c.first_of-then.result) = search rules in
    record {
      left = room_left site body c.args.around.now at s c.loop-at.from c.in_ok-next.next c.in_ok-end.end h
          c.index-body-at.is c.loop-at.invariant.left n;
      edges = one_added site body c.args.around.now at s c.loop-at.from c.in_ok-next.next c.in_ok-end.end h
          c.index-body-at.is c.loop-at.invariant.left n _ c.args.span.then _ _ _ _ c.first_of-then.ensures inner
          c.loop-at.invariant.edges now;
    }

pub add_all-returns : goal.add_all-returns
add_all-returns t c = none_left c.args.self.now c.args.body.now c.args.around.now c.loop-at.at c.loop-at.from
    c.args.span.then _ _ c.loop-at-test.false c.loop-at.invariant.edges

pub add_stmt-returns-in-None : goal.add_stmt-returns-in-None
add_stmt-returns-in-None t c =
    let none : slice_get c.args.self.now.funcs.now c.in-Call.func ≡ None = search rules in
    none_added c.args.self.now c.args.around.now c.args.span c.args.stmt.now c.args.edges.now c.in-Call.func
    c.in-Call.args c.in-Call.to c.in-Call.line c.in-Call.is none

pub add_stmt-returns-in_ok-add_all-in-Branch : goal.add_stmt-returns-in_ok-add_all-in-Branch
add_stmt-returns-in_ok-add_all-in-Branch t c =
    let site = c.args.self.now in let w = c.args.around.now in let span = c.args.span in
    let sides = c.in_ok-sides-in-Branch.sides in
    let first : c.add_branch.new.edges ≡ c.args.edges.now
    ++ branch_test site c.in-Branch.cond c.in-Branch.yes c.in-Branch.no span = search rules in
    let spans : sides ≡ branch_spans site c.in-Branch.cond c.in-Branch.yes span = search rules in
    let second : c.add_all.new.edges ≡ c.add_branch.new.edges ++ all_edges site c.in-Branch.yes w sides.first =
    search rules in
    let third : OnOk c.add_all-in-Branch.result
    (c.add_all-in-Branch.new.edges ≡ c.add_all.new.edges ++ all_edges site c.in-Branch.no w sides.second) =
    search rules in
    on_ok_weaker _
    (branch_added site w span c.args.stmt.now c.args.edges.now c.add_branch.new.edges c.add_all.new.edges
    c.in-Branch.cond c.in-Branch.yes c.in-Branch.no sides c.add_all-in-Branch.new.edges c.in-Branch.is first spans
    second) third

pub add_stmt-returns-in_ok-round-in-While : goal.add_stmt-returns-in_ok-round-in-While
add_stmt-returns-in_ok-round-in-While t c =
    let site = c.args.self.now in let w = c.args.around.now in let span = c.args.span in
    let round = c.in_ok-round-in-While.round in
    let first : c.add_loop.new.edges ≡ c.args.edges.now ++ loop_test site c.in-While.cond [] c.in-While.body span =
    search rules in
    let spans : round ≡ loop_spans site c.in-While.cond [] c.in-While.body span = search rules in
    let inner : c.in_loop-inner.result ≡ in_loop span.then round.first.then w.back = search rules in
    let second : OnOk c.add_all-in-While.result
    (c.add_all-in-While.new.edges ≡ c.add_loop.new.edges
    ++ all_edges site c.in-While.body c.in_loop-inner.result round.first) = search rules in
    on_ok_weaker _
    (while_added site w span c.args.stmt.now c.args.edges.now c.add_loop.new.edges c.add_all-in-While.new.edges
    c.in-While.cond c.in-While.body round c.in_loop-inner.result c.in-While.is first spans inner) second

pub add_stmt-returns-in_ok-add_all-in-DoWhile : goal.add_stmt-returns-in_ok-add_all-in-DoWhile
add_stmt-returns-in_ok-add_all-in-DoWhile t c =
    let site = c.args.self.now in let w = c.args.around.now in let span = c.args.span in
    let round = c.in_ok-round-in-DoWhile.round in
    let spans : round ≡ do_span site c.in-DoWhile.body span.from = search rules in
    let inner : c.in_loop-inner-in-DoWhile.result ≡ in_loop span.then round.then w.back = search rules in
    let first : c.add_all-in-DoWhile.new.edges ≡ c.args.edges.now
    ++ all_edges site c.in-DoWhile.body c.in_loop-inner-in-DoWhile.result round = search rules in
    let second : OnOk c.add_do_test.result
    (c.add_do_test.new.edges ≡ c.add_all-in-DoWhile.new.edges
    ++ do_test site c.in-DoWhile.cond c.in-DoWhile.body round span.then) = search rules in
    on_ok_weaker _
    (do_added site w span c.args.stmt.now c.args.edges.now c.add_all-in-DoWhile.new.edges c.add_do_test.new.edges
    c.in-DoWhile.cond c.in-DoWhile.body round c.in_loop-inner-in-DoWhile.result c.in-DoWhile.is spans inner first)
    second

pub add_stmt-returns-in_ok-add_all-in-For : goal.add_stmt-returns-in_ok-add_all-in-For
add_stmt-returns-in_ok-add_all-in-For t c =
    let site = c.args.self.now in let w = c.args.around.now in let span = c.args.span in
    let round = c.in_ok-round-in-For.round in
    let first : c.add_loop-in-For.new.edges ≡ c.args.edges.now
    ++ loop_test site c.in-For.cond c.in-For.next c.in-For.body span = search rules in
    let spans : round ≡ loop_spans site c.in-For.cond c.in-For.next c.in-For.body span = search rules in
    let inner : c.in_loop-inner-in-For.result ≡ in_loop span.then round.first.then w.back = search rules in
    let second : c.add_all-in-For.new.edges ≡ c.add_loop-in-For.new.edges
    ++ all_edges site c.in-For.body c.in_loop-inner-in-For.result round.first = search rules in
    let third : OnOk c.add_all-in-For-2.result
    (c.add_all-in-For-2.new.edges ≡ c.add_all-in-For.new.edges ++ all_edges site c.in-For.next w round.second) =
    search rules in
    on_ok_weaker _
    (for_added site w span c.args.stmt.now c.args.edges.now c.add_loop-in-For.new.edges c.add_all-in-For.new.edges
    c.in-For.cond c.in-For.next c.in-For.body round c.in_loop-inner-in-For.result c.add_all-in-For-2.new.edges
    c.in-For.is first spans inner second) third

pub add_stmt-returns-in_ok-add_all-in-Group : goal.add_stmt-returns-in_ok-add_all-in-Group
add_stmt-returns-in_ok-add_all-in-Group t c =
    let site = c.args.self.now in let w = c.args.around.now in let span = c.args.span in
    let spans = c.in_ok-spans-in-Group.spans in
    let told : spans ≡ group_spans site c.in-Group.body c.in-Group.ptrs c.in-Group.datums span = search rules in
    let inner : c.in_ok-inner-in-Group.inner ≡ closed w c.in-Group.ptrs c.in-Group.datums = search rules in
    let first : c.add_all-in-Group.new.edges ≡ c.args.edges.now
    ++ all_edges site c.in-Group.body c.in_ok-inner-in-Group.inner spans.first = search rules in
    let second : OnOk c.add_close.result
    (c.add_close.new.edges ≡ c.add_all-in-Group.new.edges
    ++ close_edges c.in-Group.ptrs c.in-Group.datums c.in-Group.close spans.second.from spans.second.then) =
    search rules in
    on_ok_weaker _
    (group_added site w span c.args.stmt.now c.args.edges.now c.add_all-in-Group.new.edges c.add_close.new.edges
    c.in-Group.body c.in-Group.ptrs c.in-Group.datums c.in-Group.close spans c.in_ok-inner-in-Group.inner
    c.in-Group.is told inner first) second

pub add_stmt-add_all-requires-in-Some : goal.add_stmt-add_all-requires-in-Some
add_stmt-add_all-requires-in-Some t c =
    let there : slice_get c.args.self.now.funcs.now c.in-Call.func ≡ Some c.in-Some.called.now = search rules in
    let falls = call_falls c.args.self.now c.deeper.result c.args.stmt.now c.reached-stmts.result.now c.in-Call.func
    c.in-Call.args c.in-Call.to c.in-Call.line c.in-Some.called.now t c.in-Call.is there c.deeper.ensures (search rules)
    c.decreases in
    (falls, tt)

pub add_stmt-returns-in_ok-add_all-in-Some : goal.add_stmt-returns-in_ok-add_all-in-Some
add_stmt-returns-in_ok-add_all-in-Some t c =
    let site = c.args.self.now in let w = c.args.around.now in let span = c.args.span in
    let g = c.in-Some.called.now in let spans = c.in_ok-spans-in-Some.spans in
    let there : slice_get site.funcs.now c.in-Call.func ≡ Some g = search rules in
    let told : spans ≡ call_spans site g c.in-Call.args span = search rules in
    let inner : c.in_call-inner.result ≡ in_call w spans.second.from = search rules in
    let stmts : c.reached-stmts.result.now ≡ reached site.calls g.body = search rules in
    let first : c.add_enter.new.edges ≡ c.args.edges.now
    ++ enter_edges site g c.in-Call.args c.in-Call.line span.from spans.first.from = search rules in
    let second : c.add_all-in-Some.new.edges ≡ c.add_enter.new.edges
    ++ all_edges c.deeper.result c.reached-stmts.result.now c.in_call-inner.result spans.first = search rules in
    let third : OnOk c.add_exit.result
    (c.add_exit.new.edges ≡ c.add_all-in-Some.new.edges
    ++ exit_edges site g c.in-Call.to c.in-Call.line spans.second) = search rules in
    on_ok_weaker _
    (call_added site w span c.args.stmt.now c.args.edges.now c.add_enter.new.edges c.add_all-in-Some.new.edges
    c.add_exit.new.edges c.in-Call.func c.in-Call.args c.in-Call.to c.in-Call.line g spans c.in_call-inner.result
    c.deeper.result c.reached-stmts.result.now c.in-Call.is there told inner c.deeper.ensures stmts first second) third
