use Rattle.std.proofs.Common.{◌≡◌, take, map}
use Rattle.ta_core.specs.Joined.{shift}
use Rattle.ta_core.specs.Renumbered.{renumbered}
use Rattle.ta_core.proofs.joining.shifted_rules.Given as goal

abbrev pub invariant-loop-rule : goal.invariant-loop-rule
invariant-loop-rule l = l.made ≡ map (renumbered (shift l.by)) (take l.rule-index l.rules)
