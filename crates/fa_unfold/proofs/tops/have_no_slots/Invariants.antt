use Rattle.std.proofs.Common.{◌≡◌, drop}
use Rattle.fa_unfold.specs.Unfolding.{have_no_slots}
use Rattle.fa_unfold.proofs.tops.have_no_slots.Given as goal

abbrev pub invariant-loop-rule : goal.invariant-loop-rule
invariant-loop-rule l = have_no_slots (drop l.rule-index l.rules) ≡ have_no_slots l.rules
