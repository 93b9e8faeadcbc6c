use Rattle.std.proofs.Common.{◌≡◌, ◌++◌, flat_map, take}
use Rattle.fore_explored.specs.Texts.{fold_line}
use Rattle.fore_explored.proofs.states.put_folds.Given as goal

abbrev pub invariant-loop-fold : goal.invariant-loop-fold
invariant-loop-fold l = l.text ≡ l.initial.text ++ flat_map (fold_line l.table) (take l.fold-index l.folds)
