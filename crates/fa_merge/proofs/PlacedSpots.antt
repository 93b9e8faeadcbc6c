-- The tops of trees stay under other leaves.
use Rattle.std.proofs.Common.{◌≡◌, ℕ, List, [], ◌∷◌, sym, ap, ◌∙◌}
use Rattle.ta_core.specs.declared.symbol.Symbol.TheVariants.{Cell as CellSymbol}
use Rattle.ta_core.specs.declared.tree.Tree.{out-Tree}
use Rattle.fa_core.specs.declared.forest.Target.{Target}
use Rattle.fa_core.specs.Choices.{bares}
use Rattle.fa_core.specs.Dressed.{Node, Nodes, node, no_nodes, more}
use Rattle.fa_core.specs.Filled.{TopsAre}
use Rattle.fa_core.specs.Member.{bare}
use Rattle.fa_core.specs.Placed.{placed, placed_parts, placed_all}
use Rattle.fa_core.proofs.Dressing.{cell_top}
use Rattle.fa_core.proofs.Placing.{slots_placed}

-- the symbol at the top of a tree with other leaves
pub top_placed : (f : ℕ → Target) (n : Node) → (out-Tree (bare (placed f n))).symbol ≡ (out-Tree (bare n)).symbol
top_placed f (node c s ds ps) = cell_top c s ds (placed_parts f ps) ∙ ap (CellSymbol s ds) (slots_placed f ps)
    ∙ sym (cell_top c s ds ps)

pub tops_placed : (f : ℕ → Target) (d : Nodes) (tops : List ℕ) → TopsAre (bares d) tops
    → TopsAre (bares (placed_all f d)) tops
tops_placed f no_nodes [] h = tt
tops_placed f no_nodes (s ∷ tops) h = absurd h
tops_placed f (more n ns) [] h = absurd h
tops_placed f (more n ns) (s ∷ tops) h = ((h.0.0, h.0.1, top_placed f n ∙ h.0.2), tops_placed f ns tops h.1)
