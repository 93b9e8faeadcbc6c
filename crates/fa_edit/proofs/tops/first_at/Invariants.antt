use Rattle.std.proofs.Common.{◌≢◌, take}
use Rattle.fore_base.specs.Lists.{Every}
use Rattle.fa_edit.proofs.tops.first_at.Given as goal

abbrev pub invariant-loop-rule : goal.invariant-loop-rule
invariant-loop-rule l = Every (λ x. x.state ≢ l.state) (take l.rule-index l.rules)
