use Rattle.std.proofs.Common.{sym}
use Rattle.ta_core.specs.Auto.{automaton}
use Rattle.ta_sim.specs.inner.Matching.{Stays}
use Rattle.ta_sim.specs.inner.Raising.{IsRaise}
use Rattle.ta_sim.proofs.Raised.{raised_includes, raised_settled, raises_from, states_low}
use Rattle.ta_sim.proofs.Rounds.{fewer}
use Rattle.ta_sim.proofs.upward.raise.Goals as goal

pub returns-clause-includes : goal.returns-clause-includes
returns-clause-includes c =
    let a = automaton c.auto.inside.states c.auto.inside.roots c.auto.inside.rules in
    let used = rw (← c.auto.view_is) at c.requires.used in
    let made = rw (c.as_slice.ensures, c.as_slice-2.ensures) at c.in_ok-next.ensures in
    rw (← c.auto.view_is)
    (λ f. rw c.renew-changed.ensures.next
    (raised_includes a c.args.uses.now c.args.down.now c.args.rows.now used c.in_ok-next.next made
    (states_low a c.auto.invariant) f))

pub returns-clause-raises : goal.returns-clause-raises
returns-clause-raises c =
    let a = automaton c.auto.inside.states c.auto.inside.roots c.auto.inside.rules in
    let rows = c.args.rows.now in
    let down = c.args.down.now in
    let uses = c.args.uses.now in
    let next = c.in_ok-next.next in
    let used = rw (← c.auto.view_is) at c.requires.used in
    let square = rw (← c.auto.view_is) at c.requires.square in
    let made = rw (c.as_slice.ensures, c.as_slice-2.ensures) at c.in_ok-next.ensures in
    rw (← c.auto.view_is)
    (λ k. rw c.renew-changed.ensures.next
    (raises_from a down rows next c.renew-changed.result
    (λ e. fewer a.states (Stays (IsRaise down rows) uses rows) rows next square made (λ p q h. h.0)
    (c.renew-changed.ensures.differ e))
    (λ e. let s = c.renew-changed.ensures.same e in (
      sym s,
      raised_settled a uses down rows used next made k s,
    ))))
