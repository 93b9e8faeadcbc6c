use Rattle.std.proofs.Common.{take}
use Rattle.fore_base.proofs.ListLemmas.{take_item}
use Rattle.fa_signatures.proofs.PieceLists.{not_before, cut_push, cut_skip}
use Rattle.fa_signatures.proofs.cutting.pieces.Goals as goal
use Rattle.fa_signatures.proofs.cutting.pieces.Goals.{in-Some+in_ok-push, in_default}

pub loop-marks-preserved : goal.loop-marks-preserved
loop-marks-preserved c =
    let a = c.args.whole.now in
    let m = c.marks-item.result in
    let all = c.args.all.now in
    let done = take c.loop-marks.marks-index all in
    let t = take_item all c.loop-marks.marks-index m c.loop-marks-test.true c.marks-item.is in
    let new = not_before all c.loop-marks.marks-index m c.loop-marks-test.true c.marks-item.is c.requires.apart in
    elim c.match-branch-2.branch [
      | in-Some+in_ok-push w ↦ (
          let p = rw (w.in-Some.is, c.as_slice.ensures) at c.in_ok-piece.ensures in
          rw (t, w.pieces-is, w.in_ok-push.ensures.ok)
          (λ bs h. cut_push bs a done c.loop-marks.pieces (c.loop-marks.invariant bs h) m w.in-Some.piece new
          (p bs h).0 (p bs h).1))
      | in_default w ↦ (
          let p = rw (w.in_default.is, c.as_slice.ensures) at c.in_ok-piece.ensures in
          rw (t, w.pieces-is) (λ bs h. cut_skip bs a done c.loop-marks.pieces (c.loop-marks.invariant bs h) m (p bs h)))
    ]
