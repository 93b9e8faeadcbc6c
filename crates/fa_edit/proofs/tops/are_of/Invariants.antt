use Rattle.std.proofs.Common.{◌≡◌, take}
use Rattle.fore_base.specs.Lists.{Every}
use Rattle.fa_core.specs.Member.{leaf_symbol}
use Rattle.fa_edit.proofs.tops.are_of.Given as goal

abbrev pub invariant-loop-rule : goal.invariant-loop-rule
invariant-loop-rule l = Every (λ x. x.state ≡ l.state → x.symbol ≡ leaf_symbol l.leaf) (take l.rule-index l.rules)
