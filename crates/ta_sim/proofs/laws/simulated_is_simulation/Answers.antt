use Rattle.ta_sim.proofs.Simulated.{simulated_downward}
use Rattle.ta_sim.proofs.laws.simulated_is_simulation.Goals as goal

pub returns : goal.returns
returns c = simulated_downward
