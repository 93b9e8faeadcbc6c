use Rattle.std.proofs.Common.{◌≡◌, length, arith}
use Rattle.fa_merge.specs.Reordered.{place_of}
use Rattle.fa_merge.proofs.MergedAnywhere.{an_order}
use Rattle.fa_merge.proofs.OtherOrders.{order_length}
use Rattle.fa_merge.proofs.merge.reorder_counted.Goals as goal

pub reorder_forest-requires-clause-few : goal.reorder_forest-requires-clause-few
reorder_forest-requires-clause-few c =
    let n = length c.args.forest.now.autos in
    let long : length c.args.order.now ≡ n =
    order_length n (place_of c.args.order.now) c.args.order.now (an_order n c.args.order.now c.requires.all) in
    let count = c.requires.count in
    let fits = c.ranges.count.fits in
    omega (arith, long, count, fits)
