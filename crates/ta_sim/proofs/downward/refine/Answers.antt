use Rattle.std.proofs.Common.{sym}
use Rattle.ta_sim.specs.inner.Matching.{IsMatch, Stays}
use Rattle.ta_sim.proofs.Rounds.{fewer, next_includes, refines_from, settled}
use Rattle.ta_sim.proofs.downward.refine.Goals as goal

pub returns-clause-includes : goal.returns-clause-includes
returns-clause-includes g c = λ f.
    let made = rw (c.as_slice.ensures.value, c.as_slice-2.ensures.value) at c.in_ok-fill_table.ensures.filled in
    rw c.exchange-changed.ensures.rows.0
    (next_includes c.args.states c.args._rules.now c.args.groups.now c.args.rows.now.items c.requires.proper
    c.requires.grouped c.requires.square c.fill_table.new.table.items made f)

pub returns-clause-refines : goal.returns-clause-refines
returns-clause-refines g c =
    let rows = c.args.rows.now.items in
    let groups = c.args.groups.now in
    let next = c.fill_table.new.table.items in
    let made = rw (c.as_slice.ensures.value, c.as_slice-2.ensures.value) at c.in_ok-fill_table.ensures.filled in
    rw c.exchange-changed.ensures.rows.0
    (refines_from c.args._rules.now rows next c.exchange-changed.result
    (λ e. fewer c.args.states (Stays (IsMatch rows) groups rows) rows next c.requires.square made (λ p q h. h.0)
    (c.exchange-changed.ensures.differ e))
    (λ e. let s = c.exchange-changed.ensures.same e in (
      sym s,
      settled c.args.states c.args._rules.now groups rows c.requires.proper c.requires.grouped c.requires.square next
          made
          s,
    )))
