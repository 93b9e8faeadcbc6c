use Rattle.std.proofs.Common.{sym, ◌∙◌}
use Rattle.fore_base.proofs.ListLemmas.{drop_item}
use Rattle.fa_core.proofs.Numbers.{grow_push, grow_skip}
use Rattle.fa_core.proofs.cells.add_roots.Goals as goal
use Rattle.fa_core.proofs.cells.add_roots.Goals.{then-not-has+in_ok-push, else-not-has}

pub loop-mark-preserved : goal.loop-mark-preserved
loop-mark-preserved c =
    let e = drop_item c.args.marks.now c.loop-mark.mark-index c.mark-item.result c.loop-mark-test.true c.mark-item.is in
    let h = rw c.as_slice.ensures at c.has.ensures in
    let k = rw e at c.loop-mark.invariant in
    elim c.if-not-has.branch [
      | then-not-has+in_ok-push w ↦ rw (w.roots-is, w.in_ok-push.ensures.ok)
          (grow_push _ _ _ _ (sym h ∙ w.if-not-has.true) k)
      | else-not-has w ↦ rw w.roots-is (grow_skip _ _ _ _ (sym h ∙ w.if-not-has.false) k)
    ]
