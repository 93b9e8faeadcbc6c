use Rattle.fore_base.proofs.ListLemmas.{every_push, paired_push, take_item}
use Rattle.fa_sound.proofs.sound.signatures_all.Goals as goal

pub loop-auto-preserved : goal.loop-auto-preserved
loop-auto-preserved c =
    let a = c.auto-item.result in
    let t = take_item c.args.autos.now c.loop-auto.auto-index a c.loop-auto-test.true c.auto-item.is in
    let i = c.loop-auto.invariant in
    rw (t, c.in_ok-push.ensures.ok)
    (every_push _ _ a i.0 c.known.ensures, paired_push _ _ _ _ _ i.1 c.in_ok-signatures_of.ensures)
