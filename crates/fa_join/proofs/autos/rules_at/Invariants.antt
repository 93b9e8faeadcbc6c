use Rattle.std.proofs.Common.{◌≡◌, drop, ◌++◌}
use Rattle.fa_join.specs.inner.Joining.{of_both}
use Rattle.fa_join.proofs.autos.rules_at.Given as goal

abbrev pub invariant-loop-rule : goal.invariant-loop-rule
invariant-loop-rule l = l.made ++ of_both l.to l.first l.second (drop l.rule-index l.rules)
    ≡ of_both l.to l.first l.second l.rules
