-- A tree put in the place of the references to its root, and a tree behind others.
use Rattle.fa_core.specs.Dressed.{Node, Nodes, no_nodes, more}
pub use Rattle.fa_leaves.specs.Grafting.{plug_leaf, plug, plug_parts, plug_end, plug_all}

-- the trees, and m as a further one behind them
abbrev pub with_last : Nodes → Node → Nodes
with_last no_nodes m = more m no_nodes
with_last (more n ns) m = more n (with_last ns m)
