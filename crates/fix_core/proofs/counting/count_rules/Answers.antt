use Rattle.std.proofs.Common.{◌+◌, ◌-◌, ◌^◌, length, arith}
use Rattle.std.proofs.Math.Nat.{min-le_right}
use Rattle.fix_core.proofs.CountedRules.{counted_all, counted_next}
use Rattle.fix_core.proofs.counting.count_rules.Goals as goal

pub loop-number-preserved : goal.loop-number-preserved
loop-number-preserved c =
    let l = c.loop-number in
    rw (c.saturating_add-rules.ensures, c.rules_of-more.ensures) (
      min-le_right (l.rules + length c.auto.result.now.rules) (2 ^ 64 - 1),
      counted_next c.args.pool.now c.args.numbers.now l.number-index _ c.auto.result.now l.rules (2 ^ 64 - 1) _
          c.loop-number-test.true c.auto.ensures l.invariant.1,
    )

pub returns : goal.returns
returns c =
    let l = c.loop-number in
    counted_all c.args.pool.now c.args.numbers.now l.number-index l.rules (2 ^ 64 - 1) _
    (omega (arith, c.loop-number-test.false)) l.invariant.0 l.invariant.1
