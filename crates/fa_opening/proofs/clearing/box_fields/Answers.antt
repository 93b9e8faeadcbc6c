use Rattle.std.proofs.Common.{List, subst, take, arith}
use Rattle.std.proofs.lemmas.List.{take_all}
use Rattle.fore_base.proofs.ListLemmas.{take_item}
use Rattle.fa_core.specs.declared.faces.BoxFace.{BoxFace}
use Rattle.fa_opening.specs.inner.Clearing.{AreNamed}
use Rattle.fa_opening.proofs.ClearedCells.{named_next}
use Rattle.fa_opening.proofs.clearing.box_fields.Goals as goal

pub loop-face-preserved : goal.loop-face-preserved
loop-face-preserved c =
    let x = c.face-item.result in
    let a = c.in_ok-covered.ensures in
    let b = c.in_ok-fields.ensures in
    rw (take_item c.args.boxes.now c.loop-face.face-index x c.loop-face-test.true c.face-item.is)
    (named_next (take c.loop-face.face-index c.args.boxes.now) x c.loop-face.fields c.in_ok-covered.covered
    c.in_ok-fields.fields c.loop-face.invariant (rw c.as_slice.ensures at a.added) a.kept
    (rw c.as_slice-in-loop-face.ensures at b.added) b.kept)

pub returns : goal.returns
returns c =
    let past = c.loop-face-test.false in
    subst (λ (xs : List BoxFace). AreNamed xs c.loop-face.fields)
    (take_all c.loop-face.face-index c.args.boxes.now (omega (arith, past))) c.loop-face.invariant
