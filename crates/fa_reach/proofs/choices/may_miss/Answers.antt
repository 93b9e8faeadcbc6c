use Rattle.fa_reach.proofs.choices.may_miss.Goals as goal

pub can_miss-requires-clause-count : goal.can_miss-requires-clause-count
can_miss-requires-clause-count c = rw (c.as_slice-in-loop-number.ensures, c.in_ok-parts.ensures.long) c.requires.count

pub can_miss-requires-clause-fit : goal.can_miss-requires-clause-fit
can_miss-requires-clause-fit c = rw (c.as_slice-in-loop-number.ensures) (c.in_ok-parts.ensures.fit)

pub can_miss-requires-clause-from : goal.can_miss-requires-clause-from
can_miss-requires-clause-from c = rw (c.as_slice-in-loop-number.ensures, c.in_ok-parts.ensures.long) c.requires.from

pub can_miss-requires-clause-to : goal.can_miss-requires-clause-to
can_miss-requires-clause-to c = rw (c.as_slice-in-loop-number.ensures, c.in_ok-parts.ensures.long) c.requires.to
