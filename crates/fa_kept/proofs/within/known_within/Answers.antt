use Rattle.fa_kept.proofs.Remembered.{answered_is_right}
use Rattle.fa_kept.proofs.within.known_within.Goals as goal

pub returns : goal.returns
returns c = λ pool agrees low.
    answered_is_right pool c.args.memo.now c.args.narrow c.args.wide c.answer.result agrees c.answer.ensures
