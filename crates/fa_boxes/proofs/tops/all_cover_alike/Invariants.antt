use Rattle.std.proofs.Common.{take}
use Rattle.fore_base.specs.Lists.{IsIn, Every}
use Rattle.ta_core.specs.declared.auto.Rule.{Rule}
use Rattle.fa_boxes.proofs.tops.all_cover_alike.Given as goal

abbrev pub invariant-loop-rule : goal.invariant-loop-rule
invariant-loop-rule l = Every (λ (r : Rule). IsIn r.state l.roots → ⊥) (take l.rule-index l.rules)
