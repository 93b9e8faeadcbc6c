use Rattle.ta_sim.proofs.upward.upward.Goals as goal

pub returns-clause-simulation : goal.returns-clause-simulation
returns-clause-simulation g c =
    let k = rw c.as_slice-3.ensures at c.in_ok-rows-2.ensures.simulation in
    rw (← c.down.view_is) k

pub returns-clause-greatest : goal.returns-clause-greatest
returns-clause-greatest g c =
    let k = rw c.as_slice-3.ensures at c.in_ok-rows-2.ensures.includes in
    rw (← c.down.view_is) k
