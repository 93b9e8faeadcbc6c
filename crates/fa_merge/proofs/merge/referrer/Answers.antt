use Rattle.std.proofs.Common.{arith}
use Rattle.fa_sound.specs.Components.{component_at}
use Rattle.fa_merge.specs.inner.Lone.{NoneRefer}
use Rattle.fa_merge.proofs.LoneFound.{below_or_last}
use Rattle.fa_merge.proofs.merge.referrer.Goals as goal

pub loop-other-preserved : goal.loop-other-preserved
loop-other-preserved c =
    below_or_last (λ k. NoneRefer (component_at c.args.forest.now.forest.autos k) c.args.root) c.loop-other.other
    c.loop-other.invariant (rw c.if-branch.false at c.in_ok-do_refer.ensures)

pub returns : goal.returns
returns c = λ k l.
    let past = c.loop-other-test.false in
    let size = c.requires in
    c.loop-other.invariant k (omega (arith, l, past, size))
