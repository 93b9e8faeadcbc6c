use Rattle.std.proofs.Common.{take}
use Rattle.fore_base.specs.Lists.{IsIn}
use Rattle.fa_signatures.proofs.cutting.are_among.Given as goal

abbrev pub invariant-loop-other : goal.invariant-loop-other
invariant-loop-other l = IsIn l.marks (take l.other-index l.all) → ⊥
