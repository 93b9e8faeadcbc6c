use Rattle.fa_split.proofs.LinksGive.{plain_gives}
use Rattle.room_steps.proofs.editing.fitted.Goals as goal

pub with_leaf-requires-clause-gives : goal.with_leaf-requires-clause-gives
with_leaf-requires-clause-gives c =
    plain_gives c.args.forest.now.face.boxes c.args.forest.now.forest.autos c.requires.plain
