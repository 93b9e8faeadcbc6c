use Rattle.std.proofs.Common.{arith}
use Rattle.sym_step.proofs.ToppedRoots.{into_itself, into_next, tops_first, tops_last, tops_next}
use Rattle.sym_step.proofs.topping.top_roots.Goals as goal

pub loop-root-init : goal.loop-root-init
loop-root-init c = (tops_first c.args.parts, into_itself c.args.parts)

pub loop-root-preserved : goal.loop-root-preserved
loop-root-preserved c =
    let k = c.in_ok-made.ensures in (
      tops_next c.loop-root.root c.args.parts c.loop-root.made c.in_ok-made.made c.loop-root.invariant.0 k.each,
      into_next c.args.parts c.loop-root.made c.in_ok-made.made c.loop-root.invariant.1 k.whole,
    )

pub returns-clause-each : goal.returns-clause-each
returns-clause-each c =
    tops_last c.loop-root.root c.args.count (let l = c.loop-root-test.false in omega (arith, l)) c.args.parts
    c.loop-root.made c.loop-root.invariant.0

pub returns-clause-whole : goal.returns-clause-whole
returns-clause-whole c = c.loop-root.invariant.1
