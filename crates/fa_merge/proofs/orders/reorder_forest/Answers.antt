use Rattle.std.proofs.Common.{length}
use Rattle.fa_merge.specs.Reordered.{place_of}
use Rattle.fa_merge.proofs.MergedAnywhere.{an_order}
use Rattle.fa_merge.proofs.OtherOrders.{order_below}
use Rattle.fa_merge.proofs.orders.reorder_forest.Goals as goal

pub ordered_autos-requires-clause-below : goal.ordered_autos-requires-clause-below
ordered_autos-requires-clause-below c =
    order_below (length c.args.forest.now.autos) (place_of c.args.order.now) c.args.order.now
    (an_order (length c.args.forest.now.autos) c.args.order.now c.requires.all)
