use Rattle.std.proofs.Common.{◌≡◌, drop}
use Rattle.fa_order.specs.inner.Deciding.{any_leaf}
use Rattle.fa_order.proofs.deciding.is_leaf_to.Given as goal

abbrev pub invariant-loop-end : goal.invariant-loop-end
invariant-loop-end l = any_leaf l.root (drop l.end-index l.ends) ≡ any_leaf l.root l.ends
