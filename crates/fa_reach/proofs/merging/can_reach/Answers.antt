use Rattle.std.proofs.lemmas.Bool.{not-false, not-true}
use Rattle.fa_reach.proofs.Going.{are_fit, forced_met, missed_barred}
use Rattle.fa_reach.proofs.merging.can_reach.Goals as goal

pub can_miss-requires-clause-fit : goal.can_miss-requires-clause-fit
can_miss-requires-clause-fit c = rw (c.as_slice.ensures, c.in_ok-all.ensures)
    (are_fit c.args.parts.now c.requires.fit)

pub returns-clause-yes : goal.returns-clause-yes
returns-clause-yes c = λ e.
    let h = rw (c.as_slice.ensures, c.in_ok-all.ensures) at
    c.in_ok-misses.ensures.no (not-true c.in_ok-misses.misses e) in
    forced_met c.args.parts.now c.args.from c.args.to c.requires.fit h

pub returns-clause-no : goal.returns-clause-no
returns-clause-no c = λ e.
    let h = rw (c.as_slice.ensures, c.in_ok-all.ensures) at
    c.in_ok-misses.ensures.yes (not-false c.in_ok-misses.misses e) in
    missed_barred c.args.parts.now c.args.from c.args.to h
