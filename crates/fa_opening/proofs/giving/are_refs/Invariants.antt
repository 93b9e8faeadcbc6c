use Rattle.std.proofs.Common.{◌≡◌, take}
use Rattle.fore_base.specs.Lists.{IsIn}
use Rattle.ta_core.specs.declared.auto.Rule.{Rule}
use Rattle.ta_core.specs.declared.symbol.Symbol.TheVariants.{Ref}
use Rattle.fa_opening.proofs.giving.are_refs.Given as goal

abbrev pub invariant-loop-rule : goal.invariant-loop-rule
invariant-loop-rule l = (x : Rule) → IsIn x (take l.rule-index l.rules) → x.state ≡ l.state → x.symbol ≡ Ref l.root
