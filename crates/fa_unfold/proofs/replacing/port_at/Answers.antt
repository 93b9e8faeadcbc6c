use Rattle.std.proofs.Common.{subst}
use Rattle.ta_core.specs.Auto.{Automaton}
use Rattle.fa_unfold.specs.Unfolding.{AreTops}
use Rattle.fa_unfold.proofs.replacing.port_at.Goals as goal

pub returns-clause-tops : goal.returns-clause-tops
returns-clause-tops c =
    subst (λ (a : Automaton). AreTops a c.in_ok-rules.rules) c.in_ok-placed.ensures c.in_ok-rules.ensures
