use Rattle.std.proofs.Common.{List, inl, inr, refl, take, sym, subst, ◌∙◌, true≢false}
use Rattle.fore_base.specs.Lists.{IsIn}
use Rattle.fore_base.proofs.ListLemmas.{in_at, in_push, take_item}
use Rattle.ta_core.specs.declared.auto.Rule.{Rule}
use Rattle.fa_split.specs.inner.Ends.{IsCellRule}
use Rattle.fa_split.proofs.ending.has_cell_at.Goals as goal

pub returns-then-is_cell_at : goal.returns-then-is_cell_at
returns-then-is_cell_at c = (
  (λ t. (
    c.rule-item.result,
    in_at c.args.rules.now c.loop-rule.rule-index c.rule-item.result c.loop-rule-test.true
        c.rule-item.is,
    c.is_cell_at.ensures.0 c.if-is_cell_at.true,
  )),
  (λ h. refl),
)

pub loop-rule-preserved : goal.loop-rule-preserved
loop-rule-preserved c = λ h.
    let rules = c.args.rules.now in
    let n = c.loop-rule.rule-index in
    let x = c.rule-item.result in
    let e = take_item rules n x c.loop-rule-test.true c.rule-item.is in
    elim (in_push x h.0 (take n rules) (subst (λ (xs : List Rule). IsIn h.0 xs) e h.1)) [
      | inl j ↦ c.loop-rule.invariant (h.0, j, h.2)
      | inr w ↦ true≢false (sym (c.is_cell_at.ensures.1 (subst (λ (z : Rule). IsCellRule rules c.args.state z) w h.2))
          ∙ c.if-is_cell_at.false)
    ]
