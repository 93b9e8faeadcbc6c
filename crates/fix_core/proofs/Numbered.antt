-- Nodes by number.
use Rattle.std.proofs.Common.{◌≡◌, ℕ, List, sym, ◌∙◌}
use Rattle.fix_core.specs.declared.nodes.Node.{Node}
use Rattle.fix_core.specs.Explorations.{IsNode}
use Rattle.fix_core.proofs.Lists.{some_same}

-- two nodes of one number are one
pub one_node : (nodes : List Node) (j : ℕ) (m n : Node) → IsNode nodes j m → IsNode nodes j n → m ≡ n
one_node nodes j m n h i = some_same m n (sym h ∙ i)
