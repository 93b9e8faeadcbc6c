use Rattle.fa_pool.proofs.Numbers.{one_more_numbered}
use Rattle.fa_pool.proofs.numbering.number_all.Goals as goal

pub loop-auto-preserved : goal.loop-auto-preserved
loop-auto-preserved c = (
  λ key n h. c.number.ensures.listed key n (c.loop-auto.invariant.0 key n h),
  one_more_numbered c.loop-auto.index c.number.new.index c.args.held.now c.args.autos.now c.loop-auto.auto-index
      c.auto-item.result c.loop-auto.numbers c.push.new.self c.in_ok-number.number c.loop-auto.more c.number.new.more
      c.loop-auto-test.true c.auto-item.is c.loop-auto.invariant.1 c.in_ok-number.ensures.put
      c.in_ok-number.ensures.indexed c.in_ok-number.ensures.number c.in_ok-push.ensures.ok,
)
