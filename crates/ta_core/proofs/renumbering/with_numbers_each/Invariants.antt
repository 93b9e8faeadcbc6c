use Rattle.std.proofs.Common.{◌≡◌, take, map, slice_index}
use Rattle.ta_core.specs.Renumbered.{renumbered}
use Rattle.ta_core.proofs.renumbering.with_numbers_each.Given as goal

abbrev pub invariant-loop-rule : goal.invariant-loop-rule
invariant-loop-rule l = l.made ≡ map (renumbered (λ q. slice_index l.numbers q)) (take l.rule-index l.rules)
