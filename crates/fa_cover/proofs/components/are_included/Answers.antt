use Rattle.std.proofs.Common.{◌∙◌, sym, true≢false}
use Rattle.ta_core.specs.Language.{IsWithin}
use Rattle.fore_base.proofs.ListLemmas.{paired_long}
use Rattle.fa_cover.proofs.Pairs.{pair_fails, pair_goes_on}
use Rattle.fa_cover.proofs.components.are_included.Goals as goal

pub returns-then-narrow-wide : goal.returns-then-narrow-wide
returns-then-narrow-wide c = (
  (λ h. absurd (true≢false (sym h))),
  (λ k. absurd (c.if-narrow-wide.true (paired_long IsWithin c.args.narrow.now c.args.wide.now k))),
)

pub returns-then-not-branch : goal.returns-then-not-branch
returns-then-not-branch c = (
  (λ h. absurd (true≢false (sym h))),
  (λ k.
      absurd
      (pair_fails IsWithin _ _ _ _ _ c.loop-place-test.true c.index-narrow-place.is c.index-wide-place.is
      c.loop-place.invariant
      (λ r. true≢false (sym (c.in_ok-is_included.ensures.1 r) ∙ c.if-not-branch.true)) k)),
)

pub loop-place-preserved : goal.loop-place-preserved
loop-place-preserved c =
    pair_goes_on IsWithin _ _ _ _ _ c.loop-place-test.true c.index-narrow-place.is c.index-wide-place.is
    c.loop-place.invariant (c.in_ok-is_included.ensures.0 c.if-not-branch.false)
