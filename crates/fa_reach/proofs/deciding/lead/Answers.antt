use Rattle.fa_reach.proofs.Decided.{always_leads, never_leads, may_miss, may_lead}
use Rattle.fa_reach.proofs.deciding.lead.Goals as goal

pub may_miss-requires-clause-count : goal.may_miss-requires-clause-count
may_miss-requires-clause-count c = rw (c.as_slice.ensures, c.in_ok-all.ensures.long) c.requires.count

pub may_miss-requires-clause-fit : goal.may_miss-requires-clause-fit
may_miss-requires-clause-fit c = rw (c.as_slice.ensures) (c.in_ok-all.ensures.fit)

pub may_miss-requires-clause-from : goal.may_miss-requires-clause-from
may_miss-requires-clause-from c = rw (c.as_slice.ensures, c.in_ok-all.ensures.long) c.requires.from

pub may_miss-requires-clause-to : goal.may_miss-requires-clause-to
may_miss-requires-clause-to c = rw (c.as_slice.ensures, c.in_ok-all.ensures.long) c.requires.to

pub may_reach-requires-clause-count : goal.may_reach-requires-clause-count
may_reach-requires-clause-count c = rw (c.as_slice-2.ensures, c.in_ok-all.ensures.long) c.requires.count

pub may_reach-requires-clause-fit : goal.may_reach-requires-clause-fit
may_reach-requires-clause-fit c = rw (c.as_slice-2.ensures) (c.in_ok-all.ensures.fit)

pub may_reach-requires-clause-from : goal.may_reach-requires-clause-from
may_reach-requires-clause-from c = rw (c.as_slice-2.ensures, c.in_ok-all.ensures.long) c.requires.from

pub may_reach-requires-clause-to : goal.may_reach-requires-clause-to
may_reach-requires-clause-to c = rw (c.as_slice-2.ensures, c.in_ok-all.ensures.long) c.requires.to

pub returns-then-not-misses : goal.returns-then-not-misses
returns-then-not-misses c =
    let h = rw (c.as_slice.ensures) at c.in_ok-misses.ensures.no c.if-not-misses.true in
    always_leads c.args.lists.now c.in_ok-all.all c.in_ok-all.ensures.parted c.args.from c.args.to h

pub returns-then-not-reaches : goal.returns-then-not-reaches
returns-then-not-reaches c =
    let h = rw (c.as_slice-2.ensures) at c.in_ok-reaches.ensures.no c.if-not-reaches.true in
    never_leads c.args.lists.now c.in_ok-all.all c.in_ok-all.ensures.parted c.args.from c.args.to h

pub returns : goal.returns
returns c =
    let met = rw (c.as_slice-2.ensures) at c.in_ok-reaches.ensures.yes c.if-not-reaches.false in
    let missed = rw (c.as_slice.ensures) at c.in_ok-misses.ensures.yes c.if-not-misses.false in (
      may_lead c.args.lists.now c.in_ok-all.all c.in_ok-all.ensures.parted c.in_ok-all.ensures.fit c.args.from
          c.args.to met,
      may_miss c.args.lists.now c.in_ok-all.all c.in_ok-all.ensures.parted c.in_ok-all.ensures.fit c.args.from
          c.args.to missed,
    )
