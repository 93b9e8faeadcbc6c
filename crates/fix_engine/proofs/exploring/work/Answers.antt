use Rattle.std.proofs.Common.{◌≤◌, subst}
use Rattle.fix_engine.specs.inner.Rounds.{IsTakenRound}
use Rattle.fix_engine.specs.inner.Taking.{IsFront}
use Rattle.fix_trace.specs.Tracing.{IsTraceTo}
use Rattle.fix_engine.proofs.TakenUp.{front_wider, front_closed, trace_is}
use Rattle.fix_trace.proofs.Tracing.{has_ways}
use Rattle.fix_engine.proofs.exploring.work.Goals as goal

pub rounds-init : goal.rounds-init
rounds-init g c =
    let t = c.args.task.now in
    let first : IsFront t.table t.graph t.height c.in_ok-nodes.nodes 0 1 =
    subst (λ z. IsFront z t.graph t.height c.in_ok-nodes.nodes 0 1) c.table.ensures
    (subst (λ z. IsFront c.table.result.now z t.height c.in_ok-nodes.nodes 0 1) c.graph.ensures
    (c.in_ok-nodes.ensures t.height)) in
    front_wider t.table t.graph t.height c.in_ok-nodes.nodes 0 t.budget c.known.ensures.budget first

pub trace_to-requires-clause-ways : goal.trace_to-requires-clause-ways
trace_to-requires-clause-ways g c =
    let t = c.args.task.now in
    let r = subst (IsTakenRound t.table t.graph t.height _ t.budget c.take_round.new.nodes c.in_ok-here.here)
    c.in-Fault.is c.in_ok-here.ensures in
    has_ways t.table t.graph t.height c.take_round.new.nodes r.1

pub returns-in-Fault : goal.returns-in-Fault
returns-in-Fault g c =
    let t = c.args.task.now in
    let at = c.in_ok-here.here in
    let r = subst (IsTakenRound t.table t.graph t.height _ t.budget c.take_round.new.nodes at) c.in-Fault.is
    c.in_ok-here.ensures in (
      r.1,
      trace_is t.table t.graph t.height c.take_round.new.nodes at c.in-Fault.edge c.in-Fault.bad
          c.in_ok-trace-in-Fault.trace r.0 r.2
          (subst
          (λ z. IsTraceTo z c.take_round.new.nodes at c.in-Fault.edge c.in-Fault.bad c.in_ok-trace-in-Fault.trace)
          c.graph-in-Fault.ensures c.in_ok-trace-in-Fault.ensures),
      r.3,
    )

pub returns : goal.returns
returns g c =
    let t = c.args.task.now in
    front_closed t.table t.graph t.height c.rounds.nodes c.rounds.at t.budget c.rounds.invariant
    (subst (λ z. z ≤ c.rounds.at) c.len.ensures c.rounds-test.false)
