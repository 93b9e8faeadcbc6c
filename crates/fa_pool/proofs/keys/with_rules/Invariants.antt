use Rattle.std.proofs.Common.{◌≡◌, drop}
use Rattle.fa_pool.specs.Keys.{with_rules}
use Rattle.fa_pool.proofs.keys.with_rules.Given as goal

abbrev pub invariant-loop-rule : goal.invariant-loop-rule
invariant-loop-rule l = with_rules l.mix (drop l.rule-index l.rules) ≡ with_rules l.key l.rules
