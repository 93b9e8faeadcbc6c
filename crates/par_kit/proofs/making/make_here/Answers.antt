use Rattle.std.proofs.Common.{take}
use Rattle.fore_base.proofs.ListLemmas.{take_item, paired_push}
use Rattle.par_kit.proofs.making.make_here.Goals as goal

pub loop-item-preserved : goal.loop-item-preserved
loop-item-preserved g c =
    let items = c.args.items.now in
    let place = c.loop-item.item-index in
    let t = take_item items place c.item-item.result c.loop-item-test.true c.item-item.is in
    let e = c.in_ok-push.ensures.ok in
    rw (t, e) (paired_push (g.M.Maker.relates c.args.maker.now) (take place items) c.loop-item.made c.item-item.result
    c.in_ok-product.product c.loop-item.invariant c.in_ok-product.ensures)
