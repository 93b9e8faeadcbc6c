use Rattle.std.proofs.Common.{sym, true≢false}
use Rattle.fore_base.proofs.ListLemmas.{paired_long}
use Rattle.ta_classes.specs.Classes.{IsOneClass}
use Rattle.fa_height.proofs.agreeing.are_one_class.Goals as goal

pub returns-then-left-right : goal.returns-then-left-right
returns-then-left-right c = (
  (λ h. absurd (true≢false (sym h))),
  (λ k. absurd (c.if-left-right.true (paired_long (IsOneClass c.args.classes.now) c.args.left.now c.args.right.now k))),
)
