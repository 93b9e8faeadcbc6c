use Rattle.ta_sim.proofs.Simulated.{simulated_same}
use Rattle.ta_sim.proofs.laws.simulated_is_reflexive.Goals as goal

pub returns : goal.returns
returns c = simulated_same
