use Rattle.std.proofs.Common.{take}
use Rattle.fore_base.proofs.ListLemmas.{take_item, paired_push}
use Rattle.fa_faces.specs.inner.Trimmed.{IsTrimOf}
use Rattle.fa_faces.proofs.trimming.trim_each.Goals as goal

pub loop-auto-preserved : goal.loop-auto-preserved
loop-auto-preserved c =
    let e = take_item c.args.autos.now c.loop-auto.auto-index c.auto-item.result c.loop-auto-test.true c.auto-item.is in
    rw (e, c.in_ok-push.ensures.ok)
    (paired_push IsTrimOf (take c.loop-auto.auto-index c.args.autos.now) c.loop-auto.all c.auto-item.result
    c.in_ok-trim_one.field-0 c.loop-auto.invariant c.in_ok-trim_one.ensures)
