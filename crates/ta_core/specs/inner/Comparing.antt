-- Two trees are compared node by node.
use Rattle.std.specs.Prelude.{◌≡◌, ◌↔◌, List, length}
use Rattle.std.specs.Borrow.{Bor}
use Rattle.ta_core.specs.declared.tree.Tree.{Tree, out-Tree}

-- the tree that is referred to
abbrev pub seen : Bor Tree → Tree
seen b = b.now

-- both have one symbol at the top, and as many children
abbrev pub IsSameNode : Tree → Tree → Type 0
IsSameNode t u = ((out-Tree t).symbol ≡ (out-Tree u).symbol)
    × (length (out-Tree t).children ≡ length (out-Tree u).children)

-- the trees that are still to be compared are as many on each side, and are one in each place exactly where the two
-- whole trees are one
pub record AreLeft (t u : Tree) (ts us : List Tree) : Type 0 where
  pub long : length ts ≡ length us
  pub same : (ts ≡ us) ↔ (t ≡ u)
