use Rattle.std.proofs.Common.{◌≡◌, ◌++◌, drop}
use Rattle.ta_core.specs.inner.Arcs.{root_arcs}
use Rattle.ta_core.proofs.trimming.to_roots.Given as goal

abbrev pub invariant-loop-root : goal.invariant-loop-root
invariant-loop-root l = l.arcs ++ root_arcs l.inhabited (drop l.root-index l.roots) ≡ root_arcs l.inhabited l.roots
