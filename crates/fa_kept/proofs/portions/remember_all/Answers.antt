use Rattle.fore_base.proofs.ListLemmas.{every_in, in_at}
use Rattle.fa_kept.specs.declared.asking.Asked.{Asked}
use Rattle.fa_kept.specs.inner.Asking.{AreRight}
use Rattle.fa_kept.proofs.portions.remember_all.Goals as goal

pub returns-in_err-remember : goal.returns-in_err-remember
returns-in_err-remember c = λ pool agrees right.
    let x = c.one-item.result in
    c.remember.ensures pool (c.loop-one.invariant pool agrees right)
    (rw c.as_slice.ensures
    (every_in (λ (one : Asked). AreRight pool one.found) c.args.asked.now x right
    (in_at c.args.asked.now c.loop-one.one-index x c.loop-one-test.true c.one-item.is)))

pub loop-one-preserved : goal.loop-one-preserved
loop-one-preserved c = λ pool agrees right.
    let x = c.one-item.result in
    c.remember.ensures pool (c.loop-one.invariant pool agrees right)
    (rw c.as_slice.ensures
    (every_in (λ (one : Asked). AreRight pool one.found) c.args.asked.now x right
    (in_at c.args.asked.now c.loop-one.one-index x c.loop-one-test.true c.one-item.is)))
