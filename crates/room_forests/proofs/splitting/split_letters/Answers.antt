use Rattle.fa_canon.proofs.KnotSteps.{edges_give}
use Rattle.room_forests.proofs.splitting.split_letters.Goals as goal

pub split_child-requires-clause-gives : goal.split_child-requires-clause-gives
split_child-requires-clause-gives c =
    (let s = c.args.forest.now in edges_give s.face s.forest c.requires)
