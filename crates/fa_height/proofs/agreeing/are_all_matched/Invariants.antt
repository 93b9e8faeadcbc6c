use Rattle.std.proofs.Common.{◌↔◌, drop}
use Rattle.fore_base.specs.Lists.{Every}
use Rattle.fa_height.specs.inner.Agreeing.{HasMatch}
use Rattle.fa_height.proofs.agreeing.are_all_matched.Given as goal

abbrev pub invariant-loop-rule : goal.invariant-loop-rule
invariant-loop-rule l = Every (HasMatch l.classes l.others) (drop l.rule-index l.rules)
    ↔ Every (HasMatch l.classes l.others) l.rules
