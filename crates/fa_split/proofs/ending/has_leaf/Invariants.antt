use Rattle.std.proofs.Common.{◌↔◌, drop}
use Rattle.fore_base.specs.Lists.{IsIn}
use Rattle.fa_split.proofs.ending.has_leaf.Given as goal

abbrev pub invariant-loop-other : goal.invariant-loop-other
invariant-loop-other l = IsIn l.leaf (drop l.other-index l.leaves) ↔ IsIn l.leaf l.leaves
