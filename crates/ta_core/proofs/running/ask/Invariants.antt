use Rattle.std.proofs.Common.{◌≡◌, ◌++◌, map, take}
use Rattle.ta_core.specs.inner.Running.{seen}
use Rattle.ta_core.specs.inner.Tasks.{visit}
use Rattle.ta_core.proofs.running.ask.Given as goal

abbrev pub invariant-loop-tree : goal.invariant-loop-tree
invariant-loop-tree l = map seen l.tasks ≡ map seen l.fn.tasks ++ map visit (take l.tree-index l.trees)
