use Rattle.std.proofs.Common.{◌++◌, take}
use Rattle.fore_base.specs.Lists.{Every}
use Rattle.fa_pool.specs.Pools.{IsNumber}
use Rattle.fa_pool.proofs.numbering.find_in.Given as goal

abbrev pub invariant-loop-number : goal.invariant-loop-number
invariant-loop-number l = Every (λ n. IsNumber (l.held ++ l.more) n l.auto' → ⊥) (take l.number-index l.numbers)
