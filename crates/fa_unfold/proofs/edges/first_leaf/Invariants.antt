use Rattle.std.proofs.Common.{take}
use Rattle.fa_unfold.proofs.EdgeSlots.{HasNoLeaf}
use Rattle.fa_unfold.proofs.edges.first_leaf.Given as goal

abbrev pub invariant-loop-rule : goal.invariant-loop-rule
invariant-loop-rule l = HasNoLeaf (take l.rule-index l.rules) l.state
