use Rattle.std.proofs.Common.{ap, ◌∙◌}
use Rattle.fa_core.specs.declared.faces.Face.{Face}
use Rattle.fa_faces.specs.Faults.{box_inside}
use Rattle.fa_faces.proofs.Firsts.{first_signs}
use Rattle.fa_faces.proofs.face.signed_face.Goals as goal

pub returns-in-None-clause-breaks : goal.returns-in-None-clause-breaks
returns-in-None-clause-breaks c =
    let e = c.as_slice.ensures ∙ ap (λ (f : Face). f.boxes) c.face.ensures in
    let g = rw (e, c.in-None.is) at c.in_ok-lists.ensures.signs in
    first_signs c.args.table.now.face c.args.table.now.defs (box_inside c.args.input c.args.output c.args.autos.now)
    c.requires.ready c.requires.right g
