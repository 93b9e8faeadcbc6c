use Rattle.fa_reach.proofs.Known.{knows_first, forced_to, missed_to}
use Rattle.fa_reach.proofs.merging.can_miss.Goals as goal

pub returns-clause-yes : goal.returns-clause-yes
returns-clause-yes c = λ e.
    let h = rw (c.as_slice.ensures, c.in_ok-known.ensures) at c.in_ok-avoids.ensures.yes e in
    missed_to c.args.parts.now c.args.from c.args.to _ (knows_first c.args.parts.now c.args.from c.requires.from) h

pub returns-clause-no : goal.returns-clause-no
returns-clause-no c = λ e.
    let h = rw (c.as_slice.ensures, c.in_ok-known.ensures) at c.in_ok-avoids.ensures.no e in
    forced_to c.args.parts.now c.args.from c.args.to _ (knows_first c.args.parts.now c.args.from c.requires.from) h
