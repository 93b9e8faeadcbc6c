use Rattle.std.proofs.Common.{◌≡◌, ◌++◌, drop}
use Rattle.fa_unfold.specs.Unfolding.{rules_below}
use Rattle.fa_unfold.proofs.growing.rules_below.Given as goal

abbrev pub invariant-loop-rule : goal.invariant-loop-rule
invariant-loop-rule l =
    l.made ++ rules_below l.roots l.children (drop l.rule-index l.rules) ≡ rules_below l.roots l.children l.rules
