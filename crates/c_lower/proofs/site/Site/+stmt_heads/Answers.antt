use Rattle.std.proofs.Common.{rules, ◌≡◌, slice_get, Some, None, ◌++◌, ◌+◌, ◌∷◌, [], OnOk}
use Rattle.std.proofs.lemmas.Result.{on_ok_weaker}
use Rattle.c_lower.specs.inner.Emitting.{reached, wide_stmt}
use Rattle.c_lower.specs.inner.Sites.{test_room, room, stmt_heads, all_heads, enter_room}
use Rattle.c_lower.proofs.HeadsAdded.{do_heads, branch_heads, while_heads, do_while_heads, for_heads, one_headed}
use Rattle.c_lower.proofs.HeadsAdded.{call_heads, none_heads, none_headed}
use Rattle.c_lower.proofs.Falling.{call_falls}
use Rattle.c_lower.proofs.site.Site.+stmt_heads.Goals as goal

pub add_heads-loop-stmt-preserved : goal.add_heads-loop-stmt-preserved
add_heads-loop-stmt-preserved t c =
    let site = c.args.self.now in let s = c.stmt-item.result in let at = c.loop-stmt.stmt-index in
    let n : c.in_ok-next.next ≡ c.loop-stmt.from + wide_stmt site.funcs.now site.calls site.counts.ptrs
    site.counts.datums s = search rules in
    let now : c.add_heads_of.new.heads ≡ c.loop-stmt.heads ++ stmt_heads site s c.loop-stmt.from = search rules in
    one_headed site c.args.body.now at s c.loop-stmt.from c.in_ok-next.next _ _ _ c.loop-stmt-test.true c.stmt-item.is n
    c.loop-stmt.invariant now

pub add_heads-returns : goal.add_heads-returns
add_heads-returns t c = none_headed c.args.self.now c.args.body.now c.loop-stmt.stmt-index c.loop-stmt.from _ _
    c.loop-stmt-test.false c.loop-stmt.invariant

pub add_heads_of-returns-in-Do : goal.add_heads_of-returns-in-Do
add_heads_of-returns-in-Do t c =
    do_heads c.args.self.now c.args.stmt.now c.args.at c.args.heads.now c.in-Do.act c.in-Do.line c.in-Do.is

pub add_heads_of-returns-in-None : goal.add_heads_of-returns-in-None
add_heads_of-returns-in-None t c =
    let none : slice_get c.args.self.now.funcs.now c.in-Call.func ≡ None = search rules in
    none_heads c.args.self.now c.args.stmt.now c.args.at c.args.heads.now c.in-Call.func c.in-Call.args c.in-Call.to
    c.in-Call.line c.in-Call.is none

pub add_heads_of-returns-in_ok-add_heads-in-Branch : goal.add_heads_of-returns-in_ok-add_heads-in-Branch
add_heads_of-returns-in_ok-add_heads-in-Branch t c =
    let site = c.args.self.now in
    let first : c.in_ok-first-in-Branch.first ≡ c.args.at + test_room site c.in-Branch.cond = search rules in
    let second : c.in_ok-second-in-Branch.second ≡ c.in_ok-first-in-Branch.first + room site c.in-Branch.yes =
    search rules in
    let one : c.add_heads.new.heads ≡ c.args.heads.now ++ all_heads site c.in-Branch.yes c.in_ok-first-in-Branch.first =
    search rules in
    let two : OnOk c.add_heads-in-Branch.result
    (c.add_heads-in-Branch.new.heads ≡ c.add_heads.new.heads
    ++ all_heads site c.in-Branch.no c.in_ok-second-in-Branch.second) = search rules in
    on_ok_weaker _
    (branch_heads site c.args.stmt.now c.args.at c.args.heads.now c.add_heads.new.heads
    c.add_heads-in-Branch.new.heads c.in-Branch.cond c.in-Branch.yes c.in-Branch.no _ _ c.in-Branch.is first second
    one) two

pub add_heads_of-returns-in_ok-push-in-While : goal.add_heads_of-returns-in_ok-push-in-While
add_heads_of-returns-in_ok-push-in-While t c =
    let site = c.args.self.now in
    let first : c.in_ok-first-in-While.first ≡ c.args.at + test_room site c.in-While.cond = search rules in
    let one : c.push.new.self ≡ c.args.heads.now ++ c.args.at ∷ [] = search rules in
    let two : OnOk c.add_heads-in-While.result
    (c.add_heads-in-While.new.heads ≡ c.push.new.self
    ++ all_heads site c.in-While.body c.in_ok-first-in-While.first) = search rules in
    on_ok_weaker _
    (while_heads site c.args.stmt.now c.args.at c.args.heads.now c.push.new.self c.add_heads-in-While.new.heads
    c.in-While.cond c.in-While.body _ c.in-While.is first one) two

pub add_heads_of-returns-in_ok-push-in-DoWhile : goal.add_heads_of-returns-in_ok-push-in-DoWhile
add_heads_of-returns-in_ok-push-in-DoWhile t c =
    let site = c.args.self.now in
    let test : c.in_ok-test-in-DoWhile.test ≡ c.args.at + room site c.in-DoWhile.body = search rules in
    let one : c.push-in-DoWhile.new.self ≡ c.args.heads.now ++ c.in_ok-test-in-DoWhile.test ∷ [] = search rules in
    let two : OnOk c.add_heads-in-DoWhile.result
    (c.add_heads-in-DoWhile.new.heads ≡ c.push-in-DoWhile.new.self
    ++ all_heads site c.in-DoWhile.body c.args.at) = search rules in
    on_ok_weaker _
    (do_while_heads site c.args.stmt.now c.args.at c.args.heads.now c.push-in-DoWhile.new.self
    c.add_heads-in-DoWhile.new.heads c.in-DoWhile.cond c.in-DoWhile.body _ c.in-DoWhile.is test one) two

pub add_heads_of-returns-in_ok-add_heads-in-For : goal.add_heads_of-returns-in_ok-add_heads-in-For
add_heads_of-returns-in_ok-add_heads-in-For t c =
    let site = c.args.self.now in
    let first : c.in_ok-first-in-For.first ≡ c.args.at + test_room site c.in-For.cond = search rules in
    let between : c.in_ok-between-in-For.between ≡ c.in_ok-first-in-For.first + room site c.in-For.body =
    search rules in
    let one : c.push-in-For.new.self ≡ c.args.heads.now ++ c.args.at ∷ [] = search rules in
    let two : c.add_heads-in-For.new.heads ≡ c.push-in-For.new.self
    ++ all_heads site c.in-For.body c.in_ok-first-in-For.first = search rules in
    let three : OnOk c.add_heads-in-For-2.result
    (c.add_heads-in-For-2.new.heads ≡ c.add_heads-in-For.new.heads
    ++ all_heads site c.in-For.next c.in_ok-between-in-For.between) = search rules in
    on_ok_weaker _
    (for_heads site c.args.stmt.now c.args.at c.args.heads.now c.push-in-For.new.self c.add_heads-in-For.new.heads
    c.in-For.cond c.in-For.next c.in-For.body _ _ c.add_heads-in-For-2.new.heads c.in-For.is first between one two)
    three

pub add_heads_of-add_heads-requires-in-Some : goal.add_heads_of-add_heads-requires-in-Some
add_heads_of-add_heads-requires-in-Some t c =
    let there : slice_get c.args.self.now.funcs.now c.in-Call.func ≡ Some c.in-Some.called.now = search rules in
    let falls = call_falls c.args.self.now c.deeper.result c.args.stmt.now c.reached-stmts.result.now c.in-Call.func
    c.in-Call.args c.in-Call.to c.in-Call.line c.in-Some.called.now t c.in-Call.is there c.deeper.ensures (search rules)
    c.decreases in
    (falls, tt)

pub add_heads_of-returns-in_ok-body-in-Some : goal.add_heads_of-returns-in_ok-body-in-Some
add_heads_of-returns-in_ok-body-in-Some t c =
    let site = c.args.self.now in let g = c.in-Some.called.now in
    let there : slice_get site.funcs.now c.in-Call.func ≡ Some g = search rules in
    let first : c.in_ok-body-in-Some.body ≡ c.args.at + enter_room site g c.in-Call.args = search rules in
    let stmts : c.reached-stmts.result.now ≡ reached site.calls g.body = search rules in
    let one : OnOk c.add_heads-in-Some.result
    (c.add_heads-in-Some.new.heads ≡ c.args.heads.now
    ++ all_heads c.deeper.result c.reached-stmts.result.now c.in_ok-body-in-Some.body) = search rules in
    on_ok_weaker _
    (call_heads site c.args.stmt.now c.args.at c.args.heads.now c.in-Call.func c.in-Call.args c.in-Call.to
    c.in-Call.line g c.in_ok-body-in-Some.body c.deeper.result c.reached-stmts.result.now
    c.add_heads-in-Some.new.heads c.in-Call.is there first c.deeper.ensures stmts) one
