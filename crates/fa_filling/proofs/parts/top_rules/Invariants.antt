use Rattle.std.proofs.Common.{take}
use Rattle.fa_filling.specs.Parted.{AreTopRules}
use Rattle.fa_filling.proofs.parts.top_rules.Given as goal

abbrev pub invariant-loop-rule : goal.invariant-loop-rule
invariant-loop-rule l = AreTopRules l.fn.auto (take l.rule-index l.fn.auto.rules) l.tops
