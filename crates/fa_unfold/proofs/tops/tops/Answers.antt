use Rattle.std.proofs.Common.{sym, ◌∙◌, true≢false}
use Rattle.fore_base.proofs.ListLemmas.{take_item}
use Rattle.fa_split.specs.Chosen.{none}
use Rattle.fa_split.proofs.ChosenForests.{picked_take, picked_leave}
use Rattle.fa_unfold.specs.Unfolding.{IsTop}
use Rattle.fa_unfold.proofs.tops.tops.Goals as goal
use Rattle.fa_unfold.proofs.tops.tops.Goals.{then-is_top+in_ok-copy+in_ok-push, else-is_top}

pub loop-rule-init : goal.loop-rule-init
loop-rule-init c = rw c.new-made.ensures none

pub loop-rule-preserved : goal.loop-rule-preserved
loop-rule-preserved c =
    let rules = c.rules_of-rules.result.now in
    let e = take_item rules c.loop-rule.rule-index c.rule-item.result c.loop-rule-test.true c.rule-item.is in
    let P = IsTop c.args.auto.now in
    elim c.if-is_top.branch [
      | then-is_top+in_ok-copy+in_ok-push w ↦ rw (e, w.made-is, w.in_ok-push.ensures.ok, w.in_ok-copy.ensures)
          (picked_take P c.rule-item.result (c.is_top.ensures.0 w.if-is_top.true) c.loop-rule.invariant)
      | else-is_top w ↦ rw (e, w.made-is)
          (picked_leave P c.rule-item.result (λ h. true≢false (sym (c.is_top.ensures.1 h) ∙ w.if-is_top.false))
          c.loop-rule.invariant)
    ]
