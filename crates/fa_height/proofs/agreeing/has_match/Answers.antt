use Rattle.std.proofs.Common.{take, inl, inr, refl, sym, ◌∙◌, subst, true≢false}
use Rattle.ta_core.specs.declared.auto.Rule.{Rule}
use Rattle.fore_base.specs.Lists.{IsIn}
use Rattle.fore_base.proofs.ListLemmas.{in_at, in_push, take_item}
use Rattle.fa_height.specs.inner.Agreeing.{IsMatch}
use Rattle.fa_height.proofs.agreeing.has_match.Goals as goal

pub returns-then-is_match : goal.returns-then-is_match
returns-then-is_match c = (
  (λ e. (
    c.other-item.result,
    in_at c.args.rules.now c.loop-other.other-index c.other-item.result c.loop-other-test.true
        c.other-item.is,
    c.is_match.ensures.0 c.if-is_match.true,
  )),
  (λ h. refl),
)

pub loop-other-preserved : goal.loop-other-preserved
loop-other-preserved c = λ h.
    let t = take_item c.args.rules.now c.loop-other.other-index c.other-item.result c.loop-other-test.true
    c.other-item.is in
    elim (in_push c.other-item.result h.0 (take c.loop-other.other-index c.args.rules.now) (subst (IsIn h.0) t h.1)) [
      | inl j ↦ c.loop-other.invariant (h.0, j, h.2)
      | inr d ↦ true≢false
          (sym (c.is_match.ensures.1 (subst (λ (y : Rule). IsMatch c.args.classes.now c.args.rule.now y) d h.2))
          ∙ c.if-is_match.false)
    ]
