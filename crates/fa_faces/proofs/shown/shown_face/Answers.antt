use Rattle.fa_faces.specs.Faults.{box_inside}
use Rattle.fa_faces.proofs.Leading.{fields_apart, first_port}
use Rattle.fa_faces.proofs.shown.shown_face.Goals as goal

pub returns-in-None : goal.returns-in-None
returns-in-None c =
    let g = rw (c.face.ensures, c.in-None.is) at c.in_ok-gives_in.ensures
    in
    fields_apart c.args.table.now (box_inside c.args.input c.args.output c.args.autos.now) 0
    (first_port c.args.output) g
