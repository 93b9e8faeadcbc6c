-- What the edges of its location make of a node.
use Rattle.std.specs.Prelude.{◌≡◌, ℕ, List, map}
use Rattle.fore_base.specs.declared.store.Store.{Store}
use Rattle.fore_base.specs.Lists.{IsIn, Every}
use Rattle.fa_core.specs.Boxes.{Boxes}
use Rattle.fa_core.specs.Filled.{IsSound}
use Rattle.fa_core.specs.declared.forest.Forest.{Forest}
use Rattle.c_cfg.specs.Edges.{Pass, Passed, Faulted, Halted, NotPassed}
use Rattle.c_cfg.specs.Graphs.{ControlGraph}
use Rattle.c_cfg.specs.declared.graph.Edge.{Edge}
use Rattle.sym_step.specs.declared.posts.Bad.{Bad}
use Rattle.fix_core.specs.Explorations.{IsEdge, IsNode}
use Rattle.fix_core.specs.Follows.{IsMember, passed_by}
use Rattle.fix_core.specs.States.{AbstractState}
use Rattle.fix_core.specs.declared.nodes.Node.{Node}
use Rattle.fix_successors.specs.declared.images.EdgeImage.{EdgeImage}
use Rattle.fix_successors.specs.declared.images.Image.{Image}
use Rattle.fix_successors.specs.declared.images.Image.TheVariants.{Fault, States}
use Rattle.fix_successors.specs.Arriving.{AreTargets, IsHeld}
use Rattle.fix_successors.specs.Exits.{Rises}

-- the numbers of the edges
abbrev pub edge_numbers : List EdgeImage → List ℕ
edge_numbers images = map (λ x. x.edge) images

module _ (T : Boxes) (g : ControlGraph) where
  -- each member of the bad forest is one of F and meets its fault on the edge
  pub record IsTrueFault (F : Forest) (e : Edge) (bad : Bad) : Type 0 where
    pub members : (s : Store) → IsMember T bad.at.forest s → IsMember T F s × (passed_by T e s ≡ Faulted bad.fault)
    pub face : bad.at.face ≡ T.face
    pub sound : IsSound T.face bad.at.forest

  -- no fault, and what the edge makes is a member of one of the states
  abbrev pub IsKeptIn : List AbstractState → Pass → Type 0
  IsKeptIn states (Passed t) = IsHeld T states t
  IsKeptIn states (Faulted kind) = ⊥
  IsKeptIn states Halted = Unit {0}
  IsKeptIn states NotPassed = Unit {0}

  -- The states are those to which the edge leads from F: what it makes of a member of F is no fault, and a member of
  -- one of them. Each is a case, at a loop head folded and abstracted, and no case is cut in one child.
  pub record AreSuccessors (k : ℕ) (F : Forest) (e : Edge) (states : List AbstractState) : Type 0 where
    pub targets : AreTargets T g k F e states
    pub kept : (s : Store) → IsMember T F s → IsKeptIn states (passed_by T e s)

  -- what the edge makes of F: a fault of some of its members, or no fault and these states
  abbrev pub IsImage : ℕ → Forest → Edge → Image → Type 0
  IsImage k F e (Fault bad) = IsTrueFault F e bad
  IsImage k F e (States states) = AreSuccessors k F e states

  -- what an edge of the location makes of F, under the edge's number
  pub record IsEdgeImage (k location : ℕ) (F : Forest) (x : EdgeImage) : Type 0 where
    pub edge : Edge
    pub is : IsEdge g x.edge edge
    pub from : edge.from ≡ location
    pub image : IsImage k F edge x.image

  -- what each edge of the location makes of F, by number
  pub record AreImages (k location : ℕ) (F : Forest) (images : List EdgeImage) : Type 0 where
    pub each : Every (IsEdgeImage k location F) images
    pub rises : Rises (edge_numbers images)
    pub all : (c : ℕ) (e : Edge) → IsEdge g c e → e.from ≡ location → IsIn c (edge_numbers images)

  -- what an edge makes of node `at`
  pub record IsImageAt (k : ℕ) (nodes : List Node) (at : ℕ) (x : EdgeImage) : Type 0 where
    pub node : Node
    pub is : IsNode nodes at node
    pub made : IsEdgeImage k node.head.location node.state.forest x
