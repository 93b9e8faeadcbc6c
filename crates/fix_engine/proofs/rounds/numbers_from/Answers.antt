use Rattle.std.proofs.Common.{◌+◌, arith}
use Rattle.fix_core.proofs.Lists.{length_push}
use Rattle.fix_engine.proofs.Rounding.{numbers_next}
use Rattle.fix_engine.proofs.rounds.numbers_from.Goals as goal

pub loop-place-preserved : goal.loop-place-preserved
loop-place-preserved c =
    let l = c.loop-place in
    let n = c.args.at + l.place in
    rw c.in_ok-push.ensures.ok (
      omega (arith, length_push l.numbers n, l.invariant.0),
      numbers_next c.args.at n l.numbers l.invariant.1 (omega (arith, l.invariant.0)),
    )
