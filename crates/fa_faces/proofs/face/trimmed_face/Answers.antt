use Rattle.fa_faces.specs.Faults.{box_inside}
use Rattle.fa_faces.proofs.Firsts.{first_four, first_five}
use Rattle.fa_faces.proofs.face.trimmed_face.Goals as goal

pub returns-then-not-branch-clause-breaks : goal.returns-then-not-branch-clause-breaks
returns-then-not-branch-clause-breaks c =
    let f = rw c.face.ensures at c.in_ok-are_right.ensures.no c.if-not-branch.true in
    first_four c.args.table.now.face c.args.table.now.defs (box_inside c.args.input c.args.output c.args.autos.now)
    c.requires f

pub returns-then-not-branch-2-clause-breaks : goal.returns-then-not-branch-2-clause-breaks
returns-then-not-branch-2-clause-breaks c =
    let right = rw c.face.ensures at c.in_ok-are_right.ensures.yes c.if-not-branch.false in
    let f = rw c.face-2.ensures at c.in_ok-are_tops_right.ensures.no c.if-not-branch-2.true c.args.table.now.defs in
    first_five c.args.table.now.face c.args.table.now.defs (box_inside c.args.input c.args.output c.args.autos.now)
    c.requires right f
