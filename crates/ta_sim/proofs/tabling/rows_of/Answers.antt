use Rattle.std.proofs.Common.{◌≡◌, length, arith}
use Rattle.ta_sim.proofs.Rounds.{rows_made}
use Rattle.ta_sim.proofs.tabling.rows_of.Goals as goal

pub returns : goal.returns
returns g c =
    let long = c.loop-left.invariant.0 in
    let e : length c.loop-left.rows ≡ c.args.size =
    omega (arith, long, c.loop-left-test.false, c.loop-left.auto.left-end) in
    rows_made c.args.size (g.P.Pairs.relates c.args.pairs.now) c.loop-left.rows e c.loop-left.invariant.1
