use Rattle.ta_sim.proofs.Simulated.{simulated_through}
use Rattle.ta_sim.proofs.laws.simulated_is_transitive.Goals as goal

pub returns : goal.returns
returns c = simulated_through
