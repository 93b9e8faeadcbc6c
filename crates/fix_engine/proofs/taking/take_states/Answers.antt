use Rattle.std.proofs.Common.{◌≡◌, length, true, sym, ◌∙◌, subst, arith}
use Rattle.fix_core.specs.Covered.{IsPlaced}
use Rattle.fix_core.specs.Explorations.{IsEdge}
use Rattle.fix_core.proofs.Lists.{at_item, in_at}
use Rattle.fix_engine.specs.inner.Taking.{AreFirstTaken, child}
use Rattle.fix_engine.proofs.TakenUp.{taken_start, taken_over, taken_placed, node_over, due_over}
use Rattle.fix_engine.proofs.taking.take_states.Goals as goal

pub loop-state-init : goal.loop-state-init
loop-state-init g c =
    let t = c.args.task.now in
    taken_start t.table t.graph t.height c.args.nodes.now c.args.at c.args.number t.budget c.args.states.now
    c.requires.mid c.requires.within c.requires.due

pub add_uncovered-requires-clause-faces : goal.add_uncovered-requires-clause-faces
add_uncovered-requires-clause-faces g c κs within = λ n h.
    let t = c.args.task.now in
    let a = c.state-item.result in
    let is = at_item c.args.states.now c.loop-state.state-index a c.loop-state-test.true c.state-item.is in
    node_over t.table t.graph t.height c.loop-state.nodes n c.loop-state.invariant.taken.0.explored h
    ∙ sym
    (due_over t.table t.graph t.height c.args.nodes.now c.args.at c.args.number c.args.states.now a c.requires.due
    (in_at c.args.states.now c.loop-state.state-index a is))

pub returns-in-Full : goal.returns-in-Full
returns-in-Full g c =
    let t = c.args.task.now in
    let e = c.edge_at.result.now in
    let a = c.state-item.result in
    let is = at_item c.args.states.now c.loop-state.state-index a c.loop-state-test.true c.state-item.is in
    let is_edge : IsEdge t.graph c.args.number e =
    subst (λ z. IsEdge z c.args.number e) c.graph.ensures c.edge_at.ensures in
    let more = c.add_uncovered.new.self in
    taken_over t.table t.graph t.height c.args.nodes.now c.loop-state.nodes c.args.at c.args.number t.budget
    c.args.states.now c.loop-state.state-index a e is is_edge c.loop-state.invariant more (length c.args.states.now)
    (subst (IsPlaced c.loop-state.nodes (child c.args.at c.args.number e a) t.budget more) c.in-Full.is
    (subst (λ z. IsPlaced c.loop-state.nodes (child c.args.at c.args.number e a) z more c.in_ok-add_uncovered.field-0)
    c.budget.ensures
    (subst (λ z. IsPlaced c.loop-state.nodes z c.budget.result more c.in_ok-add_uncovered.field-0)
    (c.head_of-head.ensures a) c.in_ok-add_uncovered.ensures.placed)))

pub loop-state-preserved : goal.loop-state-preserved
loop-state-preserved g c =
    let t = c.args.task.now in
    let e = c.edge_at.result.now in
    let a = c.state-item.result in
    let is = at_item c.args.states.now c.loop-state.state-index a c.loop-state-test.true c.state-item.is in
    let is_edge : IsEdge t.graph c.args.number e =
    subst (λ z. IsEdge z c.args.number e) c.graph.ensures c.edge_at.ensures in
    let more = c.add_uncovered.new.self in
    taken_placed t.table t.graph t.height c.args.nodes.now c.loop-state.nodes c.args.at c.args.number t.budget
    c.args.states.now c.loop-state.state-index a e is is_edge c.loop-state.invariant c.in_ok-add_uncovered.field-0 more
    c.in_default.not-Full
    (subst (λ z. IsPlaced c.loop-state.nodes (child c.args.at c.args.number e a) z more c.in_ok-add_uncovered.field-0)
    c.budget.ensures
    (subst (λ z. IsPlaced c.loop-state.nodes z c.budget.result more c.in_ok-add_uncovered.field-0)
    (c.head_of-head.ensures a) c.in_ok-add_uncovered.ensures.placed))

pub returns : goal.returns
returns g c =
    let t = c.args.task.now in
    let l = c.loop-state in
    let all : l.state-index ≡ length c.args.states.now =
    omega (arith, c.loop-state-test.false, l.auto.state-index-end) in
    subst
    (λ z. AreFirstTaken t.table t.graph t.height c.args.nodes.now c.args.at c.args.number t.budget c.args.states.now z
    l.nodes true) all l.invariant
