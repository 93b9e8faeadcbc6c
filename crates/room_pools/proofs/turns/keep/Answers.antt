use Rattle.room_pools.proofs.Staying.{all_stay_in}
use Rattle.room_pools.proofs.turns.keep.Goals as goal

pub returns-clause-agrees : goal.returns-clause-agrees
returns-clause-agrees c =
    c.grown_agrees.ensures c.args.memo.now c.args.pool.now c.args.forest.now.forest.autos c.keep.new.self
    c.in_ok-keep.ensures.grows c.requires.agrees

pub returns-clause-nodes : goal.returns-clause-nodes
returns-clause-nodes c =
    all_stay_in c.args.pool.now c.args.forest.now.forest.autos c.keep.new.self c.args.nodes.now
    c.in_ok-keep.ensures.grows c.requires.nodes
