use Rattle.std.proofs.Common.{◌+◌, take}
use Rattle.fore_base.specs.Lists.{Paired}
use Rattle.fore_base.proofs.ListLemmas.{every_at, paired_push, take_item}
use Rattle.fix_successors.specs.Ready.{IsNormal}
use Rattle.fix_successors.specs.inner.Settling.{IsAbstracted}
use Rattle.fix_successors.proofs.settling.abstracted_states.Goals as goal

pub abstracted_state-requires-clause-normal : goal.abstracted_state-requires-clause-normal
abstracted_state-requires-clause-normal g c =
    let t = c.args.task.now in
    λ κs within. every_at (IsNormal t.table t.graph) c.args.groups.now c.loop-group.group-index c.group-item.result
    c.requires.normal c.loop-group-test.true c.group-item.is

pub loop-group-preserved : goal.loop-group-preserved
loop-group-preserved g c =
    let t = c.args.task.now in
    let x = c.group-item.result in
    let items = c.args.groups.now in
    let M = c.args.middle.now in
    let folds = c.args.folds.now in
    let all : Paired (IsAbstracted t.table t.graph t.height M folds) (take (c.loop-group.group-index + 1) items)
    c.push.new.self =
    rw (take_item items c.loop-group.group-index x c.loop-group-test.true c.group-item.is, c.in_ok-push.ensures.ok)
    (paired_push (IsAbstracted t.table t.graph t.height M folds) (take c.loop-group.group-index items)
    c.loop-group.states x c.in_ok-state.state c.loop-group.invariant c.in_ok-state.ensures) in
    all
