use Rattle.std.proofs.Common.{map}
use Rattle.ta_core.specs.inner.Comparing.{seen, AreLeft}
use Rattle.ta_core.specs.inner.LettingGo.{all_nodes}
use Rattle.ta_core.proofs.comparing.are_same.Given as goal

abbrev pub invariant-nodes : goal.invariant-nodes
invariant-nodes l = AreLeft l.left l.right (map seen l.lefts) (map seen l.rights)

abbrev pub decreases-nodes : goal.decreases-nodes
decreases-nodes l = all_nodes (map seen l.lefts)
