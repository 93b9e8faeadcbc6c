use Rattle.std.proofs.Common.{◌≡◌, drop, ◌++◌}
use Rattle.fa_lift.specs.Lift.{hat_rules}
use Rattle.fa_lift.proofs.lifting_automata.hat_rules.Given as goal

abbrev pub invariant-loop-rule : goal.invariant-loop-rule
invariant-loop-rule l = l.made ++ hat_rules l.by l.state (drop l.rule-index l.rules) ≡ hat_rules l.by l.state l.rules
