use Rattle.fa_faces.specs.Faults.{box_inside}
use Rattle.fa_faces.proofs.Firsts.{first_five}
use Rattle.fa_faces.proofs.face.listed_face.Goals as goal

pub returns-in-None-clause-breaks : goal.returns-in-None-clause-breaks
returns-in-None-clause-breaks c =
    let f = rw c.in-None.is at c.in_ok-face.ensures in
    first_five c.args.table.now.face c.args.table.now.defs (box_inside c.args.input c.args.output c.args.autos.now)
    c.requires.ready c.requires.right f
