use Rattle.fa_sample.proofs.picking.pick_tree.Goals as goal

pub unreachable-requires : goal.unreachable-requires
unreachable-requires c = let b = rw c.in-None.is at c.in_ok-tree.ensures in b c.requires.0 c.requires.1
