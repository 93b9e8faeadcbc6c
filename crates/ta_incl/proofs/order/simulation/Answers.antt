use Rattle.std.proofs.Common.{ℕ, subst}
use Rattle.ta_core.specs.Auto.{automaton}
use Rattle.ta_sim.specs.Relations.{AreSquare}
use Rattle.ta_incl.proofs.Upward.{rows_order}
use Rattle.ta_incl.proofs.order.simulation.Goals as goal

pub returns : goal.returns
returns c =
    let a = automaton c.auto.inside.states c.auto.inside.roots c.auto.inside.rules in
    let equal = rw (← c.equal.view_is) at c.in_ok-equal.ensures.rows in
    let size = rw (← c.auto.view_is, ← c.relation.view_is) at c.in_ok-relation.ensures.size in
    let square = subst (λ (n : ℕ). AreSquare n c.relation.inside.rows) size c.relation.invariant in
    let simulation = rw (← c.auto.view_is, ← c.equal.view_is, ← c.relation.view_is)
    at c.in_ok-relation.ensures.simulation in
    let greatest = rw (← c.auto.view_is, ← c.equal.view_is, ← c.relation.view_is) at c.in_ok-relation.ensures.greatest
    in
    rw (← c.auto.view_is)
    (rows_order a c.auto.invariant c.equal.inside.rows c.relation.inside.rows equal square simulation greatest)
