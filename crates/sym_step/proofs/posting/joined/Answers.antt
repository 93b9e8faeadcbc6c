use Rattle.sym_step.proofs.SettledForests.{settled_joined}
use Rattle.sym_step.proofs.posting.joined.Goals as goal

pub returns-clause-settles : goal.returns-clause-settles
returns-clause-settles g c =
    let F = c.args.forest.now in
    settled_joined F.face F.forest c.args._edge.now c.args.settled.next c.args.settled.faults c.requires.settles
    c.in_ok-next.next
    c.in_ok-next.ensures.joined c.in_ok-next.ensures.canonical c.in_ok-next.ensures.reduced
    c.in_ok-next.ensures.plain
    (rw c.face.ensures at c.in_ok-next.ensures.faces)
    (rw c.as_slice.ensures at c.are_dressed.ensures)
