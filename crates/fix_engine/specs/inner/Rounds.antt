-- Rounds of an exploration: the images of nodes that stand next to one another.
use Rattle.std.specs.Prelude.{◌≡◌, ◌<◌, ◌≤◌, ◌+◌, ℕ, List, length, slice_get, Some}
use Rattle.fa_core.specs.Boxes.{Boxes}
use Rattle.c_cfg.specs.Graphs.{ControlGraph}
use Rattle.fix_core.specs.declared.nodes.Due.{Due}
use Rattle.fix_core.specs.declared.nodes.Node.{Node}
use Rattle.fix_core.specs.Explorations.{IsNode, Done, Exploration, Full}
use Rattle.fix_successors.specs.declared.images.EdgeImage.{EdgeImage}
use Rattle.fix_successors.specs.Images.{AreImages}
use Rattle.fix_engine.specs.declared.taking.Taken.{Taken}
use Rattle.fix_engine.specs.declared.taking.Taken.TheVariants.{All, Fault, Full as Over}
use Rattle.fix_engine.specs.inner.Taking.{IsFault, IsFront}

-- the location and the forest of node j
pub record IsDue (nodes : List Node) (j : ℕ) (d : Due) : Type 0 where
  pub node : Node
  pub is : IsNode nodes j node
  pub location : d.location ≡ node.head.location
  pub forest : d.forest.forest ≡ node.state.forest
  pub face : d.forest.face ≡ node.state.face

-- the numbers from `at` on
abbrev pub AreNumbers : ℕ → List ℕ → Type 0
AreNumbers at numbers = (j n : ℕ) → slice_get numbers j ≡ Some n → n ≡ at + j

module _ (T : Boxes) (g : ControlGraph) (k : ℕ) where
  -- what the edges of its location make of node j
  pub record AreImagesOf (nodes : List Node) (j : ℕ) (images : List EdgeImage) : Type 0 where
    pub node : Node
    pub is : IsNode nodes j node
    pub made : AreImages T g k node.head.location node.state.forest images

  -- what the edges make of one or more nodes, of which `at` is the first
  pub record IsRound (nodes : List Node) (at : ℕ) (round : List (List EdgeImage)) : Type 0 where
    pub some : 0 < length round
    pub upto : at + length round ≤ length nodes
    pub each : (j : ℕ) (images : List EdgeImage) → slice_get round j ≡ Some images → AreImagesOf nodes (at + j) images

  -- how a round was taken up, behind which node `next` comes, where the work ended at node `here`
  abbrev pub IsTakenRound : ℕ → ℕ → List Node → ℕ → Taken → Type 0
  IsTakenRound next budget more here All = IsFront T g k more next budget
  IsTakenRound next budget more here (Fault d bad) = IsFault T g more here d bad × Exploration T g k more
      × ((j : ℕ) → j < here → Done T g more j) × (length more ≤ budget)
  IsTakenRound next budget more here Over = Exploration T g k more × Full T g k more budget
