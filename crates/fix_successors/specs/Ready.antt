-- What an exploration is asked to do, and what holds of its forests.
use Rattle.std.specs.Prelude.{◌≡◌, ◌≤◌, ◌<◌, ℕ, List, length}
use Rattle.fore_base.specs.Lists.{Every}
use Rattle.fa_core.specs.Boxes.{Boxes}
use Rattle.fa_core.specs.Canonical.{IsCanonical}
use Rattle.fa_core.specs.Covering.{Reduced}
use Rattle.fa_sound.specs.Soundness.{SoundForest}
use Rattle.c_cfg.specs.Graphs.{ControlGraph}
use Rattle.c_cfg.specs.Ranges.{IsEdgeOf}
use Rattle.fix_core.specs.Follows.{HasItsVars}
use Rattle.fix_successors.specs.Exits.{AreExits}

-- a graph and a table, the height and the budget; and the numbers of the edges of each location
pub record Job : Type 0 where
  pub table : Boxes
  pub graph : ControlGraph
  pub height : ℕ
  pub budget : ℕ
  pub exits : List (List ℕ)

-- the conditions of an exploration
pub record IsReady (j : Job) : Type 0 where
  pub height : 1 ≤ j.height
  pub budget : 1 ≤ j.budget
  pub entry : 0 < j.graph.locations
  pub edges : Every (IsEdgeOf j.graph) j.graph.edges
  pub shapes : j.graph.shapes ≡ j.table.face.shapes
  pub exits : AreExits j.graph (length j.graph.edges) j.exits

-- a canonical and reduced forest over the table's face, with the graph's variables
pub record IsNormal (T : Boxes) (g : ControlGraph) (s : SoundForest) : Type 0 where
  pub face : s.face ≡ T.face
  pub canonical : IsCanonical T.face s.forest
  pub reduced : Reduced s.forest
  pub vars : HasItsVars g s.forest
