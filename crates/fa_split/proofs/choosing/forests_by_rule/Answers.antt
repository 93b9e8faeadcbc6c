use Rattle.std.proofs.Common.{[], refl, take, sym, ◌∙◌, true≢false}
use Rattle.fore_base.proofs.ListLemmas.{in_at, take_item}
use Rattle.fa_split.specs.Chosen.{none}
use Rattle.fa_split.proofs.Steps.{choose_more, choose_no_more}
use Rattle.fa_split.proofs.choosing.forests_by_rule.Goals as goal
use Rattle.fa_split.proofs.choosing.forests_by_rule.Goals.{then-stands_at_top+in_ok-with_rule+in_ok-push}
use Rattle.fa_split.proofs.choosing.forests_by_rule.Goals.{else-stands_at_top}

pub loop-rule-init : goal.loop-rule-init
loop-rule-init c = rw c.new-made.ensures (([], none, refl), tt)

pub with_rule-requires-clause-rule : goal.with_rule-requires-clause-rule
with_rule-requires-clause-rule c =
    let i = in_at c.rules_of-rules.result.now c.loop-rule.rule-index c.rule-item.result c.loop-rule-test.true
    c.rule-item.is in
    rw (c.rules_of-rules.ensures, c.component-auto.ensures, c.forest.ensures) at i

pub loop-rule-preserved : goal.loop-rule-preserved
loop-rule-preserved c =
    let rules = c.rules_of-rules.result.now in
    let done = take c.loop-rule.rule-index rules in
    let e = take_item rules c.loop-rule.rule-index c.rule-item.result c.loop-rule-test.true c.rule-item.is in
    let top = rw (c.component-auto.ensures, c.forest.ensures) at c.stands_at_top.ensures in
    elim c.if-stands_at_top.branch [
      | then-stands_at_top+in_ok-with_rule+in_ok-push w ↦ rw (e, w.made-is, w.in_ok-push.ensures.ok)
          (choose_more c.args.forest.now.forest c.args.root c.args.forest.now.face done c.loop-rule.made
          c.rule-item.result w.in_ok-with_rule.field-0 c.loop-rule.invariant (top.0 w.if-stands_at_top.true)
          w.in_ok-with_rule.ensures.forest w.in_ok-with_rule.ensures.face)
      | else-stands_at_top w ↦ rw (e, w.made-is)
          (choose_no_more c.args.forest.now.forest c.args.root c.args.forest.now.face done c.loop-rule.made
          c.rule-item.result c.loop-rule.invariant (λ h. true≢false (sym (top.1 h) ∙ w.if-stands_at_top.false)))
    ]
