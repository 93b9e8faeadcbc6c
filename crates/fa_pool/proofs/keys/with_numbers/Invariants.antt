use Rattle.std.proofs.Common.{◌≡◌, drop}
use Rattle.fa_pool.specs.Keys.{with_numbers}
use Rattle.fa_pool.proofs.keys.with_numbers.Given as goal

abbrev pub invariant-loop-number : goal.invariant-loop-number
invariant-loop-number l = with_numbers l.mix (drop l.number-index l.numbers) ≡ with_numbers l.key l.numbers
