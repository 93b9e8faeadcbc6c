use Rattle.std.proofs.Common.{◌∙◌, sym, true≢false}
use Rattle.fore_base.proofs.ListLemmas.{in_at, take_item}
use Rattle.fa_lift.proofs.LiftSteps.{provide_none, provide_there}
use Rattle.fa_lift.proofs.lifting_owners.do_provide.Goals as goal
use Rattle.fa_lift.proofs.lifting_owners.do_provide.Goals.{else-mark-root-via-then-mark-root+else-has}
use Rattle.fa_lift.proofs.lifting_owners.do_provide.Goals.{else-mark-root-via-else-mark-root}

pub returns-then-has : goal.returns-then-has
returns-then-has c =
    let i = in_at c.args.marks.now c.loop-mark.mark-index c.mark-item.result c.loop-mark-test.true c.mark-item.is in
    provide_there c.args.root c.args.field c.args.marks.now c.mark-item.result i c.if-mark-root.true
    (sym (rw c.as_slice.ensures at c.has.ensures) ∙ c.if-has.true)

pub loop-mark-preserved : goal.loop-mark-preserved
loop-mark-preserved c =
    let e = take_item c.args.marks.now c.loop-mark.mark-index c.mark-item.result c.loop-mark-test.true c.mark-item.is in
    elim c.else-mark-root.branch [
      | else-mark-root-via-then-mark-root+else-has w ↦ rw e
          (provide_none c.args.root c.args.field _ c.mark-item.result c.loop-mark.invariant
          (λ s h. true≢false (sym h ∙ sym (rw w.as_slice.ensures at w.has.ensures) ∙ w.if-has.false)))
      | else-mark-root-via-else-mark-root w ↦ rw e
          (provide_none c.args.root c.args.field _ c.mark-item.result c.loop-mark.invariant
          (λ s h. w.if-mark-root.false s))
    ]
