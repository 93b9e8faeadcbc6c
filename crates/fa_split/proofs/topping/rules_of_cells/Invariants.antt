use Rattle.std.proofs.Common.{◌≡◌, drop, ◌++◌}
use Rattle.fa_split.specs.Split.{cell_rules}
use Rattle.fa_split.proofs.topping.rules_of_cells.Given as goal

abbrev pub invariant-loop-rule : goal.invariant-loop-rule
invariant-loop-rule l = l.made ++ cell_rules l.to l.from (drop l.rule-index l.rules) ≡ cell_rules l.to l.from l.rules
