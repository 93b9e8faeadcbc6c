use Rattle.std.proofs.Common.{◌≡◌, drop}
use Rattle.fa_pool.specs.Keys.{with_datums}
use Rattle.fa_pool.proofs.keys.with_datums.Given as goal

abbrev pub invariant-loop-datum : goal.invariant-loop-datum
invariant-loop-datum l = with_datums l.mix (drop l.datum-index l.datums) ≡ with_datums l.key l.datums
