use Rattle.fa_faces.proofs.AtTops.{leaf_five}
use Rattle.fa_faces.proofs.ports.are_tops_right.Goals as goal

pub returns-then-not-are_all_cells-clause-no : goal.returns-then-not-are_all_cells-clause-no
returns-then-not-are_all_cells-clause-no c = λ e T.
    leaf_five c.args.face.now T c.args.input c.args.output c.args.autos.now c.if-not-are_all_cells.ensures
