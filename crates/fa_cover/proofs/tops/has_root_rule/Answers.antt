use Rattle.std.proofs.Common.{List, true≢false, refl, sym, subst}
use Rattle.std.proofs.lemmas.List.{take_all}
use Rattle.fore_base.specs.Lists.{IsIn}
use Rattle.fore_base.proofs.ListLemmas.{every_in, in_at}
use Rattle.ta_core.specs.declared.auto.Rule.{Rule}
use Rattle.fa_cover.specs.inner.Tops.{IsRootRule}
use Rattle.fa_cover.proofs.tops.has_root_rule.Goals as goal

pub returns-then-is_root_rule : goal.returns-then-is_root_rule
returns-then-is_root_rule c =
    let rule = c.rule-item.result in
    let i = in_at c.rules_of-rules.result.now c.loop-rule.rule-index rule c.loop-rule-test.true c.rule-item.is in (
      (λ h. (
        rule,
        subst (λ (rules : List Rule). IsIn rule rules) c.rules_of-rules.ensures i,
        c.is_root_rule.ensures.0 c.if-is_root_rule.true,
      )),
      (λ k. refl),
    )

pub returns : goal.returns
returns c =
    let none = λ (s : Rule). IsRootRule c.args.auto.now c.args.symbol.now s → ⊥ in
    let e = take_all c.loop-rule.rule-index c.rules_of-rules.result.now c.loop-rule-test.false in
    let all = rw (e, c.rules_of-rules.ensures) at c.loop-rule.invariant in (
      (λ h. absurd (true≢false (sym h))),
      (λ k. absurd (every_in none c.args.auto.now.rules k.0 all k.1 k.2)),
    )
