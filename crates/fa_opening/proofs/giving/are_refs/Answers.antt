use Rattle.std.proofs.Common.{◌≡◌, ◌∙◌, List, inl, inr, refl, ap, sym, subst, true≢false, take, arith}
use Rattle.std.proofs.lemmas.List.{take_all}
use Rattle.fore_base.specs.Lists.{IsIn}
use Rattle.fore_base.proofs.ListLemmas.{in_at, in_push, take_item}
use Rattle.ta_core.specs.declared.auto.Rule.{Rule}
use Rattle.ta_core.specs.declared.symbol.Symbol.TheVariants.{Ref}
use Rattle.fa_opening.proofs.giving.are_refs.Goals as goal
use Rattle.fa_opening.proofs.giving.are_refs.Goals.{else-rule-state-via-then-rule-state+else-not-is_ref}
use Rattle.fa_opening.proofs.giving.are_refs.Goals.{else-rule-state-via-else-rule-state}

pub returns-then-not-is_ref : goal.returns-then-not-is_ref
returns-then-not-is_ref c =
    let i = in_at c.args.rules.now c.loop-rule.rule-index c.rule-item.result c.loop-rule-test.true c.rule-item.is in (
      (λ t. absurd (true≢false (sym t))),
      (λ h. absurd
          (true≢false
          (sym (c.is_ref.ensures.1 (h c.rule-item.result i c.if-rule-state.true)) ∙ c.if-not-is_ref.true))),
    )

pub loop-rule-preserved : goal.loop-rule-preserved
loop-rule-preserved c = λ x i s.
    let item = c.rule-item.result in
    let done = take c.loop-rule.rule-index c.args.rules.now in
    let e = take_item c.args.rules.now c.loop-rule.rule-index item c.loop-rule-test.true c.rule-item.is in
    elim (in_push item x done (subst (λ (xs : List Rule). IsIn x xs) e i)) [
      | inl j ↦ c.loop-rule.invariant x j s
      | inr q ↦ elim c.else-rule-state.branch [
        | else-rule-state-via-then-rule-state+else-not-is_ref w ↦
            ap (λ (o : Rule). o.symbol) q ∙ w.is_ref.ensures.0 w.if-not-is_ref.false
        | else-rule-state-via-else-rule-state w ↦
            absurd (w.if-rule-state.false (sym (ap (λ (o : Rule). o.state) q) ∙ s))
      ]
    ]

pub returns : goal.returns
returns c =
    let past = c.loop-rule-test.false in (
      (λ t. subst (λ (xs : List Rule). (x : Rule) → IsIn x xs → x.state ≡ c.args.state → x.symbol ≡ Ref c.args.root)
          (take_all c.loop-rule.rule-index c.args.rules.now (omega (arith, past))) c.loop-rule.invariant),
      (λ h. refl),
    )
