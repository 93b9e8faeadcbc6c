use Rattle.fa_pool.proofs.Numbers.{one_more_read}
use Rattle.fa_pool.proofs.pool.Pool.autos_of.Goals as goal

pub loop-number-preserved : goal.loop-number-preserved
loop-number-preserved c =
    let more = one_more_read c.args.self.now c.args.numbers.now c.loop-number.number-index _ c.loop-number.autos
    c.auto.result.now c.loop-number-test.true c.loop-number.invariant c.auto.ensures in
    rw (← c.in_ok-auto.ensures, ← c.in_ok-push.ensures.ok) at more
