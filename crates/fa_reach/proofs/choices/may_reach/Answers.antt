use Rattle.fa_reach.proofs.choices.may_reach.Goals as goal

pub can_reach-requires-clause-count : goal.can_reach-requires-clause-count
can_reach-requires-clause-count c = rw (c.as_slice-in-loop-number.ensures, c.in_ok-parts.ensures.long) c.requires.count

pub can_reach-requires-clause-fit : goal.can_reach-requires-clause-fit
can_reach-requires-clause-fit c = rw (c.as_slice-in-loop-number.ensures) (c.in_ok-parts.ensures.fit)

pub can_reach-requires-clause-from : goal.can_reach-requires-clause-from
can_reach-requires-clause-from c = rw (c.as_slice-in-loop-number.ensures, c.in_ok-parts.ensures.long) c.requires.from

pub can_reach-requires-clause-to : goal.can_reach-requires-clause-to
can_reach-requires-clause-to c = rw (c.as_slice-in-loop-number.ensures, c.in_ok-parts.ensures.long) c.requires.to
