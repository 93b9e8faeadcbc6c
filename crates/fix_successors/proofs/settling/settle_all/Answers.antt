use Rattle.std.proofs.Common.{◌+◌, [], take, sym, subst}
use Rattle.fore_base.proofs.ListLemmas.{take_item}
use Rattle.fix_core.proofs.Lists.{take_all}
use Rattle.fix_successors.specs.inner.Settling.{AreAllSettled}
use Rattle.fix_successors.proofs.Settled.{none_settled, settled_next}
use Rattle.fix_successors.proofs.settling.settle_all.Goals as goal

pub loop-middle-init : goal.loop-middle-init
loop-middle-init g c =
    let t = c.args.task.now in
    subst (AreAllSettled t.table t.graph t.height []) (sym c.new-states.ensures)
    (none_settled t.table t.graph t.height)

pub loop-middle-preserved : goal.loop-middle-preserved
loop-middle-preserved g c =
    let t = c.args.task.now in
    let x = c.middle-item.result in
    let all : AreAllSettled t.table t.graph t.height (take (c.loop-middle.middle-index + 1) c.args.cases.now)
    c.append.new.self =
    rw (
      take_item c.args.cases.now c.loop-middle.middle-index x c.loop-middle-test.true c.middle-item.is,
      c.in_ok-append.ensures.ok,
    )
    (settled_next t.table t.graph t.height (take c.loop-middle.middle-index c.args.cases.now) c.loop-middle.states x
    c.in_ok-more.more c.loop-middle.invariant c.in_ok-more.ensures) in
    all

pub returns : goal.returns
returns g c =
    let t = c.args.task.now in
    subst (λ z. AreAllSettled t.table t.graph t.height z c.loop-middle.states)
    (take_all c.args.cases.now c.loop-middle.middle-index c.loop-middle-test.false) c.loop-middle.invariant
