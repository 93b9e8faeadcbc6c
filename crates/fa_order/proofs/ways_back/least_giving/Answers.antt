use Rattle.std.proofs.Common.{subst}
use Rattle.fa_order.proofs.OpenBacks.{IsBest, best_least, better_best, get_item, none_best}
use Rattle.fa_order.proofs.ways_back.least_giving.Goals as goal

pub loop-place-preserved : goal.loop-place-preserved
loop-place-preserved c =
    let ss = c.args.signatures.now in
    let at = get_item ss c.loop-place.place c.index-signatures-place.result c.loop-place-test.true
    c.index-signatures-place.is in
    better_best ss c.args.placed.now c.args.from c.loop-place.place c.index-signatures-place.result at
    c.loop-place.best c.better-best.result c.loop-place.invariant (rw c.as_slice.ensures at c.better-best.ensures)

pub returns-in-Some : goal.returns-in-Some
returns-in-Some c =
    best_least c.args.signatures.now c.args.placed.now c.args.from c.loop-place.place c.loop-place-test.false
    c.in-Some.giver
    (subst (IsBest c.args.signatures.now c.args.placed.now c.args.from c.loop-place.place) c.in-Some.is
    c.loop-place.invariant)

pub returns-in-None : goal.returns-in-None
returns-in-None c =
    none_best c.args.signatures.now c.args.placed.now c.args.from c.loop-place.place c.loop-place-test.false
    (subst (IsBest c.args.signatures.now c.args.placed.now c.args.from c.loop-place.place) c.in-None.is
    c.loop-place.invariant)
