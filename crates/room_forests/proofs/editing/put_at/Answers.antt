use Rattle.fa_canon.proofs.KnotSteps.{edges_give}
use Rattle.room_forests.proofs.editing.put_at.Goals as goal

pub with_leaf-requires-clause-gives : goal.with_leaf-requires-clause-gives
with_leaf-requires-clause-gives c =
    (let s = c.args.forest.now in edges_give s.face s.forest c.requires.giving)
