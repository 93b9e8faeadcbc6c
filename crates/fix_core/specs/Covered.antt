-- Which nodes cover a forest.
use Rattle.std.specs.Prelude.{◌≡◌, ◌++◌, ℕ, List, [], ◌∷◌, length, Bool, true, false}
use Rattle.fa_core.specs.Covering.{Covers}
use Rattle.fa_core.specs.declared.forest.Forest.{Forest}
use Rattle.fix_core.specs.declared.nodes.Node.{Node}
use Rattle.fix_core.specs.declared.nodes.Placed.{Placed}
use Rattle.fix_core.specs.declared.nodes.Placed.TheVariants.{Covered, Added, Full}
use Rattle.fix_core.specs.Explorations.{IsNode}

-- a node of the location covers the forest
pub record IsCovered (nodes : List Node) (location : ℕ) (F : Forest) : Type 0 where
  pub at : ℕ
  pub node : Node
  pub is : IsNode nodes at node
  pub there : node.head.location ≡ location
  pub covers : Covers node.state.forest F

-- node j, if it stands at the location, does not cover the forest
abbrev pub NotCovers : List Node → ℕ → Forest → ℕ → Type 0
NotCovers nodes location F j = (m : Node) → IsNode nodes j m → m.head.location ≡ location → Covers m.state.forest F → ⊥

-- no node of the location covers the forest
abbrev pub NoneCovers : List Node → ℕ → Forest → Type 0
NoneCovers nodes location F = (j : ℕ) → NotCovers nodes location F j

-- a node of the location covers the forest, or none does
abbrev pub CoversOrNot : List Node → ℕ → Forest → Bool → Type 0
CoversOrNot nodes location F true = IsCovered nodes location F
CoversOrNot nodes location F false = NoneCovers nodes location F

-- the node n is covered, and the nodes are as before; it is not covered, and is added at the end; or it is not covered,
-- and the nodes, which are as many as the budget, are as before
abbrev pub IsPlaced : List Node → Node → ℕ → List Node → Placed → Type 0
IsPlaced nodes n budget more Covered = IsCovered nodes n.head.location n.state.forest × (more ≡ nodes)
IsPlaced nodes n budget more Added =
    NoneCovers nodes n.head.location n.state.forest × (length nodes ≡ budget → ⊥) × (more ≡ nodes ++ n ∷ [])
IsPlaced nodes n budget more Full =
    NoneCovers nodes n.head.location n.state.forest × (length nodes ≡ budget) × (more ≡ nodes)
