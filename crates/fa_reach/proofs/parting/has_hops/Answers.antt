use Rattle.std.proofs.Common.{sym, ◌∙◌}
use Rattle.fore_base.proofs.ListLemmas.{in_at}
use Rattle.fa_reach.proofs.parting.has_hops.Goals as goal

pub returns-then-same_hops : goal.returns-then-same_hops
returns-then-same_hops c = λ t. (
  c.part-item.result,
  in_at c.args.parts.now c.loop-part.part-index c.part-item.result c.loop-part-test.true c.part-item.is,
  sym c.as_slice.ensures ∙ c.same_hops.ensures.0 c.if-same_hops.true,
)
