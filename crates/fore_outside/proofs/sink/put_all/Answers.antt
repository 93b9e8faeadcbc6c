use Rattle.std.proofs.Common.{arith, length, ap, ◌∙◌}
use Rattle.fore_outside.proofs.OutsideLemmas.{grew_further}
use Rattle.fore_outside.proofs.sink.put_all.Goals as goal

pub turns-preserved : goal.turns-preserved
turns-preserved g c = (
  omega (arith, c.in_ok-done.ensures.within),
  c.in_ok-done.ensures.counts_failed_alone ∙ c.turns.invariant.1,
  grew_further _ _ _ _ _ _ c.turns.invariant.2 c.in_ok-done.ensures.took,
  λ empty. absurd (omega (arith, c.turns-test, ap length empty)),
)
