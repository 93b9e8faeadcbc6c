use Rattle.std.proofs.Common.{List, take, sym, subst}
use Rattle.std.proofs.lemmas.List.{take_all}
use Rattle.ta_core.specs.declared.auto.Rule.{Rule}
use Rattle.fore_base.proofs.ListLemmas.{take_item}
use Rattle.fa_height.specs.inner.Agreeing.{AreRulesOf}
use Rattle.fa_height.proofs.Agreements.{rules_add, rules_skip}
use Rattle.fa_height.proofs.agreeing.rules_of.Goals as goal
use Rattle.fa_height.proofs.agreeing.rules_of.Goals.{then-rule-state+in_ok-copy+in_ok-push, else-rule-state}

pub loop-rule-preserved : goal.loop-rule-preserved
loop-rule-preserved c =
    let t = take_item c.args.rules.now c.loop-rule.rule-index c.rule-item.result c.loop-rule-test.true c.rule-item.is in
    subst (λ (rs : List Rule). AreRulesOf rs c.args.state c.if-rule-state.made) (sym t)
    (elim c.if-rule-state.branch [
      | then-rule-state+in_ok-copy+in_ok-push w ↦ rw (w.made-is, w.in_ok-push.ensures.ok, w.in_ok-copy.ensures)
          (rules_add (take c.loop-rule.rule-index c.args.rules.now) c.loop-rule.made c.args.state c.rule-item.result
          c.loop-rule.invariant w.if-rule-state.true)
      | else-rule-state w ↦ rw w.made-is
          (rules_skip (take c.loop-rule.rule-index c.args.rules.now) c.loop-rule.made c.args.state c.rule-item.result
          c.loop-rule.invariant w.if-rule-state.false)
    ])

pub returns : goal.returns
returns c = subst (λ (rs : List Rule). AreRulesOf rs c.args.state c.loop-rule.made)
    (take_all c.loop-rule.rule-index c.args.rules.now c.loop-rule-test.false) c.loop-rule.invariant
