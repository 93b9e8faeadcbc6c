use Rattle.std.proofs.Common.{◌≡◌, take}
use Rattle.fore_base.specs.Lists.{Every}
use Rattle.fa_filling.proofs.ends.are_all.Given as goal

abbrev pub invariant-loop-other : goal.invariant-loop-other
invariant-loop-other l = Every (λ t. t ≡ l.number) (take l.other-index l.numbers)
