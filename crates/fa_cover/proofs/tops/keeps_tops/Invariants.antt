use Rattle.std.proofs.Common.{take}
use Rattle.fore_base.specs.Lists.{Every}
use Rattle.fa_cover.specs.inner.Tops.{KeepsTop}
use Rattle.fa_cover.proofs.tops.keeps_tops.Given as goal

abbrev pub invariant-loop-rule : goal.invariant-loop-rule
invariant-loop-rule l = Every (KeepsTop l.narrow l.wide) (take l.rule-index l.rules)
