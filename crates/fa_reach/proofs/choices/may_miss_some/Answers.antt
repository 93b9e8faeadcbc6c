use Rattle.fa_reach.proofs.choices.may_miss_some.Goals as goal

pub can_miss_some-requires-clause-count : goal.can_miss_some-requires-clause-count
can_miss_some-requires-clause-count c =
    rw (c.as_slice-in-loop-number.ensures, c.in_ok-parts.ensures.long) c.requires.count

pub can_miss_some-requires-clause-fit : goal.can_miss_some-requires-clause-fit
can_miss_some-requires-clause-fit c = rw (c.as_slice-in-loop-number.ensures) (c.in_ok-parts.ensures.fit)

pub can_miss_some-requires-clause-from : goal.can_miss_some-requires-clause-from
can_miss_some-requires-clause-from c =
    rw (c.as_slice-in-loop-number.ensures, c.in_ok-parts.ensures.long) c.requires.from
