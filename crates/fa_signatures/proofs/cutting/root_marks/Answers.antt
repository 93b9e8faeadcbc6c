use Rattle.std.proofs.Common.{List, take, true≢false, sym, subst, ◌∙◌}
use Rattle.fore_base.proofs.ListLemmas.{distinct_push, take_item}
use Rattle.fa_sound.proofs.OneFirst.{take_long}
use Rattle.fa_signatures.specs.inner.CutPairs.{Pair, AreRootMarks}
use Rattle.fa_signatures.proofs.PairRules.{marks_push, marks_skip, has_in, in_has}
use Rattle.fa_signatures.proofs.cutting.root_marks.Goals as goal
use Rattle.fa_signatures.proofs.cutting.root_marks.Goals.{then-has+then-not-are_among+in_ok-marks+in_ok-push, else-has}
use Rattle.fa_signatures.proofs.cutting.root_marks.Goals.{else-has-via-then-has+else-not-are_among}
use Rattle.fa_signatures.proofs.cutting.root_marks.Goals.{else-has-via-else-has}

pub loop-pair-preserved : goal.loop-pair-preserved
loop-pair-preserved c =
    let x = c.pair-item.result in
    let done = take c.loop-pair.pair-index c.args.pairs.now in
    let t = take_item c.args.pairs.now c.loop-pair.pair-index x c.loop-pair-test.true c.pair-item.is in
    let inv = c.loop-pair.invariant in
    elim c.if-has.branch [
      | then-has+then-not-are_among+in_ok-marks+in_ok-push w ↦ (
          let s = rw (w.as_slice.ensures, w.as_slice-then-has.ensures) at w.are_among.ensures in
          let r = has_in x.0 c.args.roots.now (sym c.has.ensures ∙ w.if-has.true) in
          rw (t, w.all-is, w.in_ok-push.ensures.ok, w.in_ok-marks.ensures) (record {
            marks = marks_push done c.args.roots.now c.loop-pair.all inv.marks x r;
            apart = distinct_push c.loop-pair.all x.1.marks inv.apart
                (λ i. true≢false (sym (s.1 i) ∙ w.if-not-are_among.true));
          }))
      | else-has w ↦ rw (t, w.all-is) (record {
        marks = marks_skip done c.args.roots.now c.loop-pair.all inv.marks x (λ r. elim w.else-has.branch [
          | else-has-via-then-has+else-not-are_among v ↦ (
              let s = rw (v.as_slice.ensures, v.as_slice-then-has.ensures) at v.are_among.ensures in
              s.0 v.if-not-are_among.false)
          | else-has-via-else-has v ↦ absurd
              (true≢false (sym (in_has x.0 c.args.roots.now r) ∙ sym c.has.ensures ∙ v.if-has.false))
        ]);
        apart = inv.apart;
      })
    ]

pub returns-clause-marks : goal.returns-clause-marks
returns-clause-marks c =
    subst (λ (l : List Pair). AreRootMarks l c.args.roots.now c.loop-pair.all)
    (take_long c.loop-pair.pair-index c.args.pairs.now c.loop-pair-test.false) c.loop-pair.invariant.marks
