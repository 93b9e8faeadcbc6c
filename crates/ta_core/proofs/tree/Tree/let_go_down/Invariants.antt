use Rattle.std.proofs.Common.{◌≤◌}
use Rattle.ta_core.specs.inner.LettingGo.{toll_with}
use Rattle.ta_core.proofs.tree.Tree.let_go_down.Given as goal

abbrev pub invariant-nodes : goal.invariant-nodes
invariant-nodes l = toll_with l.self l.others.items ≤ toll_with l.fn.self l.fn.others.items

abbrev pub decreases-nodes : goal.decreases-nodes
decreases-nodes l = toll_with l.self l.others.items
