use Rattle.std.proofs.Common.{sym}
use Rattle.ta_core.specs.Auto.{automaton}
use Rattle.ta_sim.specs.inner.Matching.{Stays}
use Rattle.ta_sim.specs.inner.Raising.{IsRaise}
use Rattle.ta_sim.proofs.Raised.{raised_includes, raised_settled, raises_from, states_low}
use Rattle.ta_sim.proofs.Rounds.{fewer}
use Rattle.ta_sim.proofs.upward.raise_by.Goals as goal

pub returns-clause-includes : goal.returns-clause-includes
returns-clause-includes g c =
    let a = automaton c.auto.inside.states c.auto.inside.roots c.auto.inside.rules in
    let used = rw (← c.auto.view_is) at c.requires.used in
    let made = rw (c.as_slice.ensures.value, c.as_slice-2.ensures.value) at c.in_ok-fill_table.ensures.filled in
    rw (← c.auto.view_is)
    (λ f. rw c.exchange-changed.ensures.rows.0
    (raised_includes a c.args.uses.now c.args.down.now c.args.rows.now.items used c.fill_table.new.table.items made
    (states_low a c.auto.invariant) f))

pub returns-clause-raises : goal.returns-clause-raises
returns-clause-raises g c =
    let a = automaton c.auto.inside.states c.auto.inside.roots c.auto.inside.rules in
    let rows = c.args.rows.now.items in
    let down = c.args.down.now in
    let uses = c.args.uses.now in
    let next = c.fill_table.new.table.items in
    let used = rw (← c.auto.view_is) at c.requires.used in
    let square = rw (← c.auto.view_is) at c.requires.square in
    let roots = rw (← c.auto.view_is) at c.requires.roots in
    let made = rw (c.as_slice.ensures.value, c.as_slice-2.ensures.value) at c.in_ok-fill_table.ensures.filled in
    rw (← c.auto.view_is)
    (rw c.exchange-changed.ensures.rows.0
    (raises_from a down rows next c.exchange-changed.result
    (λ e. fewer a.states (Stays (IsRaise down rows) uses rows) rows next square made (λ p q h. h.0)
    (c.exchange-changed.ensures.differ e))
    (λ e. let s = c.exchange-changed.ensures.same e in (
      sym s,
      raised_settled a uses down rows used next made roots s,
    ))))
