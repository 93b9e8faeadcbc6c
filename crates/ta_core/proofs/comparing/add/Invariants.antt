use Rattle.std.proofs.Common.{◌≡◌, ◌++◌, map, take}
use Rattle.ta_core.specs.inner.Comparing.{seen}
use Rattle.ta_core.proofs.comparing.add.Given as goal

abbrev pub invariant-loop-tree : goal.invariant-loop-tree
invariant-loop-tree l = map seen l.nodes ≡ map seen l.fn.nodes ++ take l.tree-index l.trees
