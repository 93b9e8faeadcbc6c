use Rattle.std.proofs.Common.{◌≡◌, take}
use Rattle.fa_unfold.specs.Unfolding.{child_states}
use Rattle.fa_unfold.proofs.growing.child_states.Given as goal

abbrev pub invariant-loop-rule : goal.invariant-loop-rule
invariant-loop-rule l = l.made ≡ child_states (take l.rule-index l.rules)
