use Rattle.std.proofs.Common.{◌≡◌, ℕ, true≢false, sym}
use Rattle.fore_base.proofs.ListLemmas.{every_in, in_every}
use Rattle.fa_core.specs.Rearranged.{often}
use Rattle.fa_core.proofs.Counts.{often_same}
use Rattle.fa_core.proofs.Rearranging.{long_same}
use Rattle.fa_core.proofs.SameCounts.{alike_by}
use Rattle.fa_filling.proofs.giving.are_rearranged.Goals as goal

pub returns-then-left-right : goal.returns-then-left-right
returns-then-left-right c = (
  λ h. absurd (true≢false (sym h)),
  λ r. absurd (c.if-left-right.true (long_same r)),
)

pub returns : goal.returns
returns c = (
  λ y. alike_by c.args.left.now c.args.right.now c.if-left-right.false
      (λ n i. every_in (λ (k : ℕ). often k c.args.left.now ≡ often k c.args.right.now) c.args.left.now n
      (c.are_as_often.ensures.0 y) i),
  λ r. c.are_as_often.ensures.1
      (in_every (λ (k : ℕ). often k c.args.left.now ≡ often k c.args.right.now) c.args.left.now
      (λ n i. often_same n r)),
)
