use Rattle.fore_base.proofs.ListLemmas.{in_at}
use Rattle.fa_signatures.proofs.parts.has_empty.Goals as goal

pub returns-then-branch : goal.returns-then-branch
returns-then-branch c = λ _. (
  c.whole-item.result,
  in_at c.args.autos.now c.loop-whole.whole-index c.whole-item.result c.loop-whole-test.true c.whole-item.is,
  c.in_ok-is_empty.ensures.empty.0 c.if-branch.true,
)
