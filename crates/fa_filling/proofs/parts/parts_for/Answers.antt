use Rattle.std.proofs.Common.{take}
use Rattle.std.proofs.lemmas.List.{take_more}
use Rattle.fore_base.proofs.ListLemmas.{paired_push}
use Rattle.fa_filling.specs.Parted.{IsPartFor}
use Rattle.fa_filling.proofs.parts.parts_for.Goals as goal

pub loop-shape-preserved : goal.loop-shape-preserved
loop-shape-preserved c =
    let h = c.loop-shape-test.true in
    rw (take_more c.args.structs.now c.loop-shape.shape-index 0 h, c.in_ok-push.ensures.ok)
    (paired_push (IsPartFor c.args.whole.now c.args.tops.now) (take c.loop-shape.shape-index c.args.structs.now)
    c.loop-shape.parts _ _ c.loop-shape.invariant c.in_ok-part.ensures)
