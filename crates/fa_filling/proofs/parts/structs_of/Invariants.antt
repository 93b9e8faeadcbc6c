use Rattle.std.proofs.Common.{take}
use Rattle.fa_filling.specs.Parted.{AreStructsOf}
use Rattle.fa_filling.proofs.parts.structs_of.Given as goal

abbrev pub invariant-loop-rule : goal.invariant-loop-rule
invariant-loop-rule l = AreStructsOf (take l.rule-index l.rules) l.structs
