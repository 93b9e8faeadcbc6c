use Rattle.std.proofs.Common.{sym, ◌∙◌, true≢false}
use Rattle.ta_incl.proofs.Covering.{cover_left, cover_right, cover_joined}
use Rattle.ta_incl.proofs.found.is_covered.Goals as goal

pub returns-then-has_cover : goal.returns-then-has_cover
returns-then-has_cover c = (
  λ _. cover_left c.args.order.now c.args.found.now c.args.added.now c.args.pair.now
      (c.has_cover.ensures.0 c.if-has_cover.true),
  λ _. c.if-has_cover.true,
)

pub returns-else-has_cover : goal.returns-else-has_cover
returns-else-has_cover c = (
  λ y. cover_right c.args.order.now c.args.found.now c.args.added.now c.args.pair.now
      (c.has_cover-else-has_cover.ensures.0 y),
  λ h. c.has_cover-else-has_cover.ensures.1
      (cover_joined c.args.order.now c.args.found.now c.args.added.now c.args.pair.now
      (λ k. true≢false (sym (c.has_cover.ensures.1 k) ∙ c.if-has_cover.false)) h),
)
