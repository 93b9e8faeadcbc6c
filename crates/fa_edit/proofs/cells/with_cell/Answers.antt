use Rattle.fa_edit.proofs.NewForests.{new_plain, is_newed}
use Rattle.fa_edit.proofs.cells.with_cell.Goals as goal

pub returns-clause-newed : goal.returns-clause-newed
returns-clause-newed c =
    rw c.in_ok-made.ensures.forest
    (λ T. is_newed c.args.forest.now.face c.args.forest.now.forest c.args.to c.args.shape
    c.known.ensures.sound T)

pub returns-clause-plain : goal.returns-clause-plain
returns-clause-plain c = λ plain.
    rw c.in_ok-made.ensures.forest
    (new_plain c.args.forest.now.face c.args.forest.now.forest c.args.to c.args.shape c.known.ensures.sound plain)
