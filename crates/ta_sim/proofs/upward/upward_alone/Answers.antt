use Rattle.ta_sim.proofs.upward.upward_alone.Goals as goal

pub returns-clause-simulation : goal.returns-clause-simulation
returns-clause-simulation c =
    let k = rw c.as_slice-3.ensures at c.in_ok-settle.ensures.settled in
    rw (← c.down.view_is) k

pub returns-clause-greatest : goal.returns-clause-greatest
returns-clause-greatest c =
    let k = rw c.as_slice-3.ensures at c.in_ok-settle.ensures.keeps in
    rw (← c.down.view_is) k.4
