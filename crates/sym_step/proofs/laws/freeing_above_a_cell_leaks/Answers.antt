use Rattle.sym_step.proofs.FreedChild.{cells_leak}
use Rattle.sym_step.proofs.laws.freeing_above_a_cell_leaks.Goals as goal

pub returns : goal.returns
returns c = λ face T F r p b e s table sound ranked can fields filled forward is at h.
    cells_leak face T table F r p sound ranked can fields filled forward e (b, is, at) s h
