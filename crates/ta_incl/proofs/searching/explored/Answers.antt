use Rattle.ta_incl.proofs.searching.explored.Goals as goal

pub searched-requires : goal.searched-requires
searched-requires c = c.equality-orders.ensures c.args.left.now c.args.right.now
