use Rattle.std.proofs.Common.{Some, arith}
use Rattle.fa_faces.specs.Faults.{box_inside}
use Rattle.fa_faces.proofs.Leading.{fields_apart}
use Rattle.fa_faces.proofs.shown.two_shown.Goals as goal

pub returns-in-None : goal.returns-in-None
returns-in-None c =
    let g = rw (c.face.ensures, c.in-None.is) at c.in_ok-gives_out.ensures
    in
    fields_apart c.args.table.now (box_inside c.args.input (Some c.args.shape) c.args.autos.now) 1 (omega arith) g
