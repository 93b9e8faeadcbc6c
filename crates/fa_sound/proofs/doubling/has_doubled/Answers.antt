use Rattle.fore_base.proofs.ListLemmas.{in_at}
use Rattle.fa_sound.proofs.doubling.has_doubled.Goals as goal

pub returns-then-is_doubled : goal.returns-then-is_doubled
returns-then-is_doubled c =
    let k = c.is_doubled.ensures.0 c.if-is_doubled.true in
    let i = in_at c.args.marks.now c.loop-mark.mark-index c.mark-item.result c.loop-mark-test.true c.mark-item.is in
    λ h. (c.mark-item.result, i, k.0, k.1)
