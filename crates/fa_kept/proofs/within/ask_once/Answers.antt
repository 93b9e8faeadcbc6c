use Rattle.fa_kept.proofs.Remembered.{found_is_right}
use Rattle.fa_kept.proofs.within.ask_once.Goals as goal

pub returns-in-Some-clause-right : goal.returns-in-Some-clause-right
returns-in-Some-clause-right c =
    found_is_right c.args.pool.now c.args.found.now c.args.narrow c.args.wide c.in-Some.yes c.requires.found
    (rw c.as_slice.ensures at c.in-Some.ensures)
