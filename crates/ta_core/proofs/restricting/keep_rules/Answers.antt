use Rattle.std.proofs.Common.{◌++◌, ℕ, List, slice_index, ap, sym, ◌∙◌}
use Rattle.ta_core.specs.declared.auto.Rule.{Rule}
use Rattle.ta_core.specs.inner.Restricted.{kept_rules}
use Rattle.ta_core.proofs.Kept.{kept_push, kept_skip}
use Rattle.fore_base.proofs.ListLemmas.{drop_item}
use Rattle.ta_core.proofs.restricting.keep_rules.Goals as goal
use Rattle.ta_core.proofs.restricting.keep_rules.Goals.{then-is_kept+in_ok-rule+in_ok-push, else-is_kept}

pub loop-rule-preserved : goal.loop-rule-preserved
loop-rule-preserved c =
    let f = λ (q : ℕ). slice_index c.args.numbers.now q in
    let d = drop_item c.args.rules.now c.loop-rule.rule-index c.rule-item.result c.loop-rule-test.true c.rule-item.is in
    let e = ap (λ (rest : List Rule). c.loop-rule.kept ++ kept_rules c.args.marks.now f rest) (sym d)
    ∙ c.loop-rule.invariant in
    elim c.if-is_kept.branch [
      | then-is_kept+in_ok-rule+in_ok-push w ↦ rw (w.kept-is, w.in_ok-push.ensures.ok, w.in_ok-rule.ensures)
          (kept_push c.args.marks.now f _ _ _ _ (sym c.is_kept.ensures ∙ w.if-is_kept.true) e)
      | else-is_kept w ↦ rw w.kept-is
          (kept_skip c.args.marks.now f _ _ _ _ (sym c.is_kept.ensures ∙ w.if-is_kept.false) e)
    ]
