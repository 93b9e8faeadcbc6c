-- The edges of the links of a step.
use Rattle.std.specs.Prelude.{ℕ, ◌+◌, List, [], ◌∷◌, ◌++◌}
use Rattle.c_cfg.specs.declared.graph.Edge.{Edge}
use Rattle.c_cfg.specs.declared.link.Link.{Link}
use Rattle.c_cfg.specs.Lowering.{link_edges}

-- the edges of links from k on over the next locations, the last one to `to`
abbrev pub chain : ℕ → List Link → ℕ → ℕ → List Edge
chain line [] k to = []
chain line (l ∷ []) k to = link_edges line k to l
chain line (l ∷ x ∷ ls) k to = link_edges line k (k + 1) l ++ chain line (x ∷ ls) (k + 1) to
