use Rattle.std.proofs.Common.{◌≡◌, ◌++◌, drop}
use Rattle.fa_giving.specs.inner.Totals.{rule_fields}
use Rattle.fa_giving.proofs.roots.rule_fields.Given as goal

abbrev pub invariant-loop-rule : goal.invariant-loop-rule
invariant-loop-rule l = l.all ++ rule_fields l.face (drop l.rule-index l.rules) ≡ rule_fields l.face l.rules
