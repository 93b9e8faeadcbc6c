-- A budget of as many nodes as the graph has prefixes is never full.
use Rattle.std.proofs.Common.{◌≡◌, ◌≤◌, ℕ, true, not, List, [], ◌∷◌, ◌++◌, length, arith}
use Rattle.std.specs.List.{list_all}
use Rattle.c_cfg.specs.Graphs.{ControlGraph}
use Rattle.c_prefixes.specs.Prefixes.{AtMost}
use Rattle.fa_core.specs.Boxes.{Boxes, IsBoxTable}
use Rattle.fix_core.specs.declared.explored.Explored.{Explored}
use Rattle.fix_core.specs.declared.explored.Explored.TheVariants.{Closed, Faulty, Spent}
use Rattle.fix_core.specs.declared.nodes.Node.{Node}
use Rattle.fix_core.specs.Explorations.{Exploration, IsExplored}
use Rattle.fix_core.proofs.Lists.{length_push}
use Rattle.fix_decided.specs.Decided.{IsDecided}
use Rattle.fix_decided.proofs.BareNodes.{bare_nodes}
use Rattle.fix_decided.proofs.Counting.{at_most_prefixes, no_heads}

module _ (T : Boxes) (table : IsBoxTable T) (g : ControlGraph) (free : list_all not g.heads ≡ true) (k b : ℕ) where
  pub few_nodes : (nodes : List Node) → Exploration T g k nodes → AtMost b g → length nodes ≤ b
  few_nodes nodes explored most =
      at_most_prefixes T table g k nodes explored (λ l. no_heads g.heads l free)
      (bare_nodes T g k nodes explored (λ l. no_heads g.heads l free)) b most

  pub decided : (found : Explored) → IsExplored T g k b found → AtMost b g → IsDecided found
  decided (Closed nodes) h most = tt
  decided (Faulty nodes tr) h most = tt
  decided (Spent nodes) h most =
      let full = h.1 in
      let few = few_nodes (nodes ++ full.further ∷ []) full.again most in
      let one = length_push nodes full.further in
      let many = full.many in
      omega (arith, few, one, many)
