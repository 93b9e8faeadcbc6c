-- How much is still to be done where trees are let go, the last one first.
use Rattle.std.specs.Prelude.{ℕ, ◌+◌, ◌*◌, List, [], ◌∷◌, map}
use Rattle.ta_core.specs.declared.tree.Tree.{Tree, Tree-F, para-Tree}
use Rattle.fore_base.specs.Lists.{sum_of}
use Rattle.ta_core.specs.Language.{nodes}

-- the nodes of the trees
abbrev pub all_nodes : List Tree → ℕ
all_nodes ts = sum_of (map nodes ts)

-- the cost of the first one, and 2 for each node of the others
abbrev pub toll_by : List (Tree × ℕ) → ℕ
toll_by [] = 0
toll_by (c ∷ cs) = c.1 + 2 * all_nodes (map (λ (d : Tree × ℕ). d.0) cs)

-- what a tree costs where no other is left: nothing is then put in the place of a first child
abbrev pub alone_step : Tree-F (Tree × ℕ) → ℕ
alone_step t = toll_by t.children + 1

abbrev pub alone : Tree → ℕ
alone = para-Tree ℕ alone_step

-- what trees cost: 2 for each node, but for the first one, which comes when no other is left
abbrev pub toll : List Tree → ℕ
toll [] = 0
toll (t ∷ ts) = alone t + 2 * all_nodes ts

-- what a tree costs with others that come after it
abbrev pub toll_with : Tree → List Tree → ℕ
toll_with t [] = alone t
toll_with t (u ∷ us) = 2 * nodes t + toll (u ∷ us)
