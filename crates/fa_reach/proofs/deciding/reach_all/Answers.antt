use Rattle.std.proofs.lemmas.Bool.{not-false, not-true}
use Rattle.fa_reach.proofs.Decided.{all_reach, some_missed}
use Rattle.fa_reach.proofs.deciding.reach_all.Goals as goal

pub may_miss_some-requires-clause-count : goal.may_miss_some-requires-clause-count
may_miss_some-requires-clause-count c = rw (c.as_slice.ensures, c.in_ok-all.ensures.long) c.requires.count

pub may_miss_some-requires-clause-fit : goal.may_miss_some-requires-clause-fit
may_miss_some-requires-clause-fit c = rw (c.as_slice.ensures) (c.in_ok-all.ensures.fit)

pub may_miss_some-requires-clause-from : goal.may_miss_some-requires-clause-from
may_miss_some-requires-clause-from c = rw (c.as_slice.ensures, c.in_ok-all.ensures.long) c.requires.from

pub returns-clause-yes : goal.returns-clause-yes
returns-clause-yes c = λ e.
    let h = rw (c.as_slice.ensures) at c.in_ok-misses.ensures.no (not-true c.in_ok-misses.misses e) in
    all_reach c.args.lists.now c.in_ok-all.all c.in_ok-all.ensures.parted c.args.from h

pub returns-clause-no : goal.returns-clause-no
returns-clause-no c = λ e.
    let h = rw (c.as_slice.ensures) at c.in_ok-misses.ensures.yes (not-false c.in_ok-misses.misses e) in
    some_missed c.args.lists.now c.in_ok-all.all c.in_ok-all.ensures.parted c.in_ok-all.ensures.fit c.args.from h
