use Rattle.std.proofs.Common.{take}
use Rattle.fore_base.specs.Lists.{Every}
use Rattle.fa_cover.specs.inner.Tops.{IsRootRule}
use Rattle.fa_cover.proofs.tops.has_root_rule.Given as goal

abbrev pub invariant-loop-rule : goal.invariant-loop-rule
invariant-loop-rule l = Every (λ s. IsRootRule l.auto' l.symbol s → ⊥) (take l.rule-index l.rules)
