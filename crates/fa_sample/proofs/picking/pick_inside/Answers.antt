use Rattle.std.proofs.Common.{[]}
use Rattle.fa_sample.proofs.Sampled.{full_at}
use Rattle.fa_sample.proofs.picking.pick_inside.Goals as goal

pub pick_trees-requires : goal.pick_trees-requires
pick_trees-requires c = rw c.as_slice.ensures
    (full_at c.args.table.now.face.shapes [] c.args.table.now.defs c.args.number c.box_def-one.result.now
    c.requires.table.sound c.box_def-one.ensures)
