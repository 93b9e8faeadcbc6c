use Rattle.std.proofs.Common.{◌∙◌, sym, true≢false}
use Rattle.fore_base.proofs.ListLemmas.{in_at, take_item}
use Rattle.fa_lift.proofs.LiftSteps.{refer_none, refer_there}
use Rattle.fa_lift.proofs.lifting_owners.may_refer.Goals as goal
use Rattle.fa_lift.proofs.lifting_owners.may_refer.Goals.{else-rule-state-via-then-rule-state+else-is_ref}
use Rattle.fa_lift.proofs.lifting_owners.may_refer.Goals.{else-rule-state-via-else-rule-state}

pub returns-then-is_ref : goal.returns-then-is_ref
returns-then-is_ref c =
    let i = in_at c.args.rules.now c.loop-rule.rule-index c.rule-item.result c.loop-rule-test.true c.rule-item.is in
    refer_there c.args.rules.now c.args.root c.args.state c.rule-item.result i c.if-rule-state.true
    (c.is_ref.ensures.0 c.if-is_ref.true)

pub loop-rule-preserved : goal.loop-rule-preserved
loop-rule-preserved c =
    let rules = c.args.rules.now in
    let e = take_item rules c.loop-rule.rule-index c.rule-item.result c.loop-rule-test.true c.rule-item.is in
    elim c.else-rule-state.branch [
      | else-rule-state-via-then-rule-state+else-is_ref w ↦ rw e
          (refer_none _ c.args.root c.args.state c.rule-item.result c.loop-rule.invariant
          (λ s y. true≢false (sym (w.is_ref.ensures.1 y) ∙ w.if-is_ref.false)))
      | else-rule-state-via-else-rule-state w ↦ rw e
          (refer_none _ c.args.root c.args.state c.rule-item.result c.loop-rule.invariant
          (λ s y. w.if-rule-state.false s))
    ]
