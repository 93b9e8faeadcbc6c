use Rattle.fore_base.proofs.ListLemmas.{paired_push, take_item}
use Rattle.fa_signatures.specs.CutPieces.{AreCut}
use Rattle.fa_signatures.proofs.parts.pieces_each.Goals as goal

pub loop-whole-preserved : goal.loop-whole-preserved
loop-whole-preserved c =
    let t = take_item c.args.autos.now c.loop-whole.whole-index c.whole-item.result c.loop-whole-test.true
    c.whole-item.is in
    rw (t, c.in_ok-push.ensures.ok)
    (paired_push (AreCut c.args.boxes.now) _ c.loop-whole.all c.whole-item.result c.in_ok-pieces.pieces
    c.loop-whole.invariant c.in_ok-pieces.ensures.cut)
