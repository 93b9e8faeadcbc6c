use Rattle.std.proofs.Common.{◌≡◌, ◌++◌, map, drop}
use Rattle.fa_filling.specs.Parted.{fresh_rule, rules_of}
use Rattle.fa_filling.proofs.parts.chosen.Given as goal

abbrev pub invariant-loop-rule : goal.invariant-loop-rule
invariant-loop-rule l = l.rules ++ map (fresh_rule l.fn.auto) (rules_of l.shape (drop l.rule-index l.tops))
    ≡ l.initial.rules ++ map (fresh_rule l.fn.auto) (rules_of l.shape l.tops)
