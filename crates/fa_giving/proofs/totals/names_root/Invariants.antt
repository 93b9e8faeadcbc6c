use Rattle.std.proofs.Common.{drop, ◌≡◌}
use Rattle.fa_giving.specs.inner.Totals.{names_root}
use Rattle.fa_giving.proofs.totals.names_root.Given as goal

abbrev pub invariant-loop-rule : goal.invariant-loop-rule
invariant-loop-rule l = names_root l.root (drop l.rule-index l.rules) ≡ names_root l.root l.rules
