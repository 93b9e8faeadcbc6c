use Rattle.std.proofs.Common.{take}
use Rattle.fore_base.specs.Lists.{IsIn}
use Rattle.fa_signatures.proofs.pairing.place_of.Given as goal

abbrev pub invariant-loop-place : goal.invariant-loop-place
invariant-loop-place l = IsIn (l.state, l.below) (take l.place l.pairs) → ⊥
