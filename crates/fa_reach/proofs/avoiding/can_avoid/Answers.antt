use Rattle.std.proofs.Common.{List, Bool, length, subst, sym}
use Rattle.fore_base.specs.Marks.{IsMarked}
use Rattle.fa_reach.proofs.Sweeps.{first_lost, first_out, swept_lost, swept_out, closed_avoids}
use Rattle.fa_reach.proofs.avoiding.can_avoid.Goals as goal

pub sweeps-init : goal.sweeps-init
sweeps-init c = rw (c.in_ok-set.ensures)
    (first_lost c.args.parts.now c.args.to, first_out (length c.args.parts.now) c.args.to)

pub returns-then-not-sweep-clause-yes : goal.returns-then-not-sweep-clause-yes
returns-then-not-sweep-clause-yes c = λ e.
    let done = c.sweep.ensures.done c.if-not-sweep.true in
    let there = c.has_fallen.ensures.no c.sweeps-test.true in
    closed_avoids c.args.parts.now c.sweep.new.set c.args.known.now c.args.to c.requires.fit done.1
    (λ u m. subst (λ (z : List Bool). IsMarked z u) (sym done.0) (there u m))
    (λ m. c.sweeps.invariant.1 (subst (λ (z : List Bool). IsMarked z c.args.to) done.0 m))

pub sweeps-preserved : goal.sweeps-preserved
sweeps-preserved c = rw (c.sweep.ensures.swept) (
  swept_lost c.args.parts.now c.args.to c.requires.fit c.sweeps.set c.sweeps.invariant.0,
  swept_out c.args.parts.now c.sweeps.set c.args.to c.sweeps.invariant.1,
)
