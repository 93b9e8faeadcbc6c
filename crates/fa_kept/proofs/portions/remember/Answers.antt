use Rattle.fa_kept.proofs.Remembered.{agrees_with_found}
use Rattle.fa_kept.proofs.portions.remember.Goals as goal

pub returns-in_err-add : goal.returns-in_err-add
returns-in_err-add c = λ pool agrees right.
    agrees_with_found pool c.loop-one.memo c.add.new.self c.args.found.now c.loop-one.one-index _ c.loop-one-test.true
    (c.loop-one.invariant pool agrees right) right c.add.ensures.others

pub loop-one-preserved : goal.loop-one-preserved
loop-one-preserved c = λ pool agrees right.
    agrees_with_found pool c.loop-one.memo c.add.new.self c.args.found.now c.loop-one.one-index _ c.loop-one-test.true
    (c.loop-one.invariant pool agrees right) right c.add.ensures.others
