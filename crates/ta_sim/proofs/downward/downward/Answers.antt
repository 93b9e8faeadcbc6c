use Rattle.ta_sim.proofs.downward.downward.Goals as goal

pub returns-clause-simulation : goal.returns-clause-simulation
returns-clause-simulation g c = let k = rw c.as_slice-rules.ensures at c.in_ok-rows.ensures.simulation in
    rw (← c.auto.view_is) k
