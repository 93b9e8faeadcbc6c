use Rattle.std.proofs.Common.{◌↔◌, sym, ◌∙◌, true≢false, IsTrue}
use Rattle.std.proofs.lemmas.Result.{IfOk-weaker}
use Rattle.ta_core.specs.Language.{HasSameLanguage, IsWithin}
use Rattle.fa_join.proofs.comparing.is_same.Goals as goal

pub returns-then-not-is_within : goal.returns-then-not-is_within
returns-then-not-is_within c = (
  (λ e. absurd (true≢false (sym e))),
  (λ h. absurd (true≢false (sym (c.in_ok-is_within.ensures.1 (λ t. (h t).0)) ∙ c.if-not-is_within.true))),
)

pub returns : goal.returns
returns c =
    let a = c.args.left.now in
    let b = c.args.right.now in
    IfOk-weaker c.is_included-2.result (λ yes. IsTrue yes ↔ IsWithin b a) (λ yes. IsTrue yes ↔ HasSameLanguage a b)
    (λ yes d. ((λ e t. (c.in_ok-is_within.ensures.0 c.if-not-is_within.false t, d.0 e t)), (λ h. d.1 (λ t. (h t).1))))
    c.is_included-2.ensures
