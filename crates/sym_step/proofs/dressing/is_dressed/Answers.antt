use Rattle.fa_leaves.proofs.Hollow.{filled_dressed, hollow_table}
use Rattle.fa_back.proofs.Dressable.{some_choice}
use Rattle.sym_step.proofs.dressing.is_dressed.Goals as goal

pub returns : goal.returns
returns c =
    let F = c.args.forest.now in
    let sound = c.known.ensures.sound in
    let choice = some_choice F.forest.autos sound.full in
    let d = filled_dressed F.face F.forest 0 sound.well_formed.filled c.known.ensures.ranked choice.0 choice.1 in
    (hollow_table F.face.boxes, d.nodes, d.of)
