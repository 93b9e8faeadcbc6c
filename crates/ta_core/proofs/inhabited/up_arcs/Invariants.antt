use Rattle.std.proofs.Common.{◌≡◌, take, map}
use Rattle.ta_core.specs.inner.Arcs.{up_arc}
use Rattle.ta_core.proofs.inhabited.up_arcs.Given as goal

abbrev pub invariant-loop-rule : goal.invariant-loop-rule
invariant-loop-rule l = l.arcs ≡ map up_arc (take l.rule-index l.rules)
