use Rattle.fa_unfold.proofs.RankedUnfoldings.{inside_at}
use Rattle.fa_unfold.proofs.replacing.inside.Goals as goal

pub returns : goal.returns
returns c =
    rw c.as_slice.ensures
    (inside_at c.args.table.now.defs c.args.number c.box_def.result.now c.box_def.ensures)
