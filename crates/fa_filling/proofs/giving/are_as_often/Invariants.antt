use Rattle.std.proofs.Common.{◌≡◌, take}
use Rattle.fore_base.specs.Lists.{Every}
use Rattle.fa_core.specs.Rearranged.{often}
use Rattle.fa_filling.proofs.giving.are_as_often.Given as goal

abbrev pub invariant-loop-number : goal.invariant-loop-number
invariant-loop-number l = Every (λ n. often n l.left ≡ often n l.right) (take l.number-index l.numbers)
