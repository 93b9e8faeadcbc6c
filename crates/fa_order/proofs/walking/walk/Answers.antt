use Rattle.std.proofs.Common.{length, reverse}
use Rattle.fa_order.specs.inner.Backs.{GivesBy, LeadsBy}
use Rattle.fa_order.proofs.NextVisits.{next_below, next_ends, next_falls, next_goes}
use Rattle.fa_order.proofs.Weights.{visit_anew, visit_below, visit_falls, visit_goes}
use Rattle.fa_order.proofs.walking.walk.Goals as goal

pub visit-requires : goal.visit-requires
visit-requires c =
    let h = rw (c.in-Some.is, c.as_slice.ensures) at c.next_visit.ensures in
    (next_below c.args.signatures.now c.args.refers.now c.loop-root.placed (reverse c.loop-root.stack)
    (reverse c.next_visit.new.stack) c.in-Some.root h c.loop-root.invariant.1).0

pub loop-root-smaller : goal.loop-root-smaller
loop-root-smaller c =
    let refers = c.args.refers.now in
    let rest = reverse c.next_visit.new.stack in
    let h = rw (c.in-Some.is, c.as_slice.ensures) at c.next_visit.ensures in
    next_falls c.args.signatures.now refers c.loop-root.placed (reverse c.loop-root.stack) rest c.in-Some.root _ h
    (visit_falls refers c.in-Some.root rest c.loop-root.placed c.in_ok-visit.ensures)
    (visit_anew refers c.in-Some.root rest c.loop-root.placed c.in_ok-visit.ensures)

pub loop-root-preserved : goal.loop-root-preserved
loop-root-preserved c =
    let refers = c.args.refers.now in
    let ss = c.args.signatures.now in
    let rest = reverse c.next_visit.new.stack in
    let h = rw (c.in-Some.is, c.as_slice.ensures) at c.next_visit.ensures in (
      (λ order w. c.loop-root.invariant.0 order
          (next_goes ss refers c.loop-root.placed (reverse c.loop-root.stack) rest c.in-Some.root h order
          (visit_goes refers c.in-Some.root rest c.loop-root.placed (LeadsBy ss) (GivesBy ss) c.in_ok-visit.ensures
          order w))),
      visit_below refers c.in-Some.root rest c.loop-root.placed (length refers) c.in_ok-visit.ensures
          c.requires.refers
          (next_below ss refers c.loop-root.placed (reverse c.loop-root.stack) rest c.in-Some.root h
          c.loop-root.invariant.1).1,
    )

pub returns : goal.returns
returns c = c.loop-root.invariant.0 c.loop-root.placed
    (next_ends c.args.signatures.now c.args.refers.now c.loop-root.placed (reverse c.loop-root.stack)
    (reverse c.next_visit.new.stack) (rw (c.in_default.is, c.as_slice.ensures) at c.next_visit.ensures))
