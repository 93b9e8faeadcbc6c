use Rattle.std.proofs.Common.{sym, true≢false}
use Rattle.fore_base.proofs.ListLemmas.{paired_long}
use Rattle.fa_join.specs.inner.Differing.{SameTops}
use Rattle.fa_join.proofs.looks.have_same_tops.Goals as goal

pub returns-then-left-right : goal.returns-then-left-right
returns-then-left-right c = (
  (λ h. absurd (true≢false (sym h))),
  (λ k. absurd (c.if-left-right.true (paired_long SameTops c.args.left.now c.args.right.now k))),
)
