use Rattle.ta_sim.proofs.Simulated.{simulated_runs}
use Rattle.ta_sim.proofs.laws.simulated_has_trees.Goals as goal

pub returns : goal.returns
returns c = simulated_runs
