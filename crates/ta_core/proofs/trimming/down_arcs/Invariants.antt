use Rattle.std.proofs.Common.{◌≡◌, take, map}
use Rattle.ta_core.specs.inner.Arcs.{down_arc}
use Rattle.ta_core.proofs.trimming.down_arcs.Given as goal

abbrev pub invariant-loop-child : goal.invariant-loop-child
invariant-loop-child l = l.arcs ≡ map (down_arc l.rule.state) (take l.child-index l.rule.children)
