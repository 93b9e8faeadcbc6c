use Rattle.std.proofs.Common.{get_or, set, true}
use Rattle.fore_base.proofs.ListLemmas.{in_place}
use Rattle.fa_reach.proofs.Known.{gains_none, gains_on, gains_mark, forced_still}
use Rattle.fa_reach.proofs.spreading.mark_all.Goals as goal

pub loop-root-init : goal.loop-root-init
loop-root-init c = gains_none c.args._parts.now c.args.known.now

pub loop-root-preserved : goal.loop-root-preserved
loop-root-preserved c =
    let ps = c.args._parts.now in
    let old = c.loop-root.known in
    let r = get_or c.args.roots.now c.loop-root.root-index 0 in
    let w = forced_still ps c.args.known.now old r c.loop-root.invariant
    (c.requires r (in_place c.args.roots.now c.loop-root.root-index 0 c.loop-root-test.true)) in
    rw (c.mark.ensures) (gains_on ps c.args.known.now old (set old r true) c.loop-root.invariant
    (gains_mark ps old r w))
