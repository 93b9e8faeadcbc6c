use Rattle.std.proofs.Common.{arith}
use Rattle.c_edges.proofs.Called.{given_all}
use Rattle.c_edges.proofs.calls.give_each.Goals as goal

pub returns-then-at-args : goal.returns-then-at-args
returns-then-at-args c =
    given_all c.args.counts.now.ptrs c.args.counts.now.datums c.loop-at.at c.args.params.now c.args.args.now _ _
    (omega (arith, c.if-at-args.true)) c.loop-at.invariant
