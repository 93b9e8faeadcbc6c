use Rattle.fa_split.proofs.SplitCells.{refers_well, cells_dressed, taken_regroups, cells_regroup}
use Rattle.fa_split.proofs.laws.cells_are_taken_out.Goals as goal

pub returns-clause-dressed : goal.returns-clause-dressed
returns-clause-dressed c = λ T F r p ranked can. cells_dressed F r p ranked can T

pub returns-clause-regroups : goal.returns-clause-regroups
returns-clause-regroups c = λ T face F r p d e ranked can sound h t.
    taken_regroups F r p ranked can T (refers_well face F sound) d e h t

pub returns-clause-back : goal.returns-clause-back
returns-clause-back c = λ T face F r p ranked can sound. cells_regroup F r p ranked can T (refers_well face F sound)
