use Rattle.std.proofs.Common.{take}
use Rattle.fore_base.specs.Lists.{Every, IsIn}
use Rattle.fa_part.proofs.finding.are_apart.Given as goal

abbrev pub invariant-loop-number : goal.invariant-loop-number
invariant-loop-number l = Every (λ k. IsIn k l.others → ⊥) (take l.number-index l.numbers)
