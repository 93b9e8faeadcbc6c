use Rattle.fa_kept.proofs.Remembered.{found_at}
use Rattle.fa_kept.proofs.within.found_within.Goals as goal

pub returns-then-is_for : goal.returns-then-is_for
returns-then-is_for c =
    let e = c.is_for.ensures.0 c.if-is_for.true in
    found_at c.args.found.now c.loop-one.one-index _ c.args.narrow c.args.wide c.loop-one-test.true e.0 e.1
