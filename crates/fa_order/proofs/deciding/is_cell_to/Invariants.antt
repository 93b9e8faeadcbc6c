use Rattle.std.proofs.Common.{◌≡◌, drop}
use Rattle.fa_order.specs.inner.Deciding.{any_cell}
use Rattle.fa_order.proofs.deciding.is_cell_to.Given as goal

abbrev pub invariant-loop-end : goal.invariant-loop-end
invariant-loop-end l = any_cell l.root (drop l.end-index l.ends) ≡ any_cell l.root l.ends
