-- What holds while an exploration goes on.
use Rattle.std.specs.Prelude.{◌≡◌, ◌⊎◌, ◌<◌, ◌≤◌, ◌+◌, ℕ, List, length, take, Bool, true, false, Some}
use Rattle.fore_base.specs.declared.store.Store.{Store}
use Rattle.fore_base.specs.Lists.{IsIn, Every}
use Rattle.fa_core.specs.Boxes.{Boxes}
use Rattle.fa_core.specs.Filled.{IsSound}
use Rattle.c_cfg.specs.Edges.{Faulted}
use Rattle.c_cfg.specs.Graphs.{ControlGraph}
use Rattle.c_cfg.specs.declared.graph.Edge.{Edge}
use Rattle.sym_step.specs.declared.posts.Bad.{Bad}
use Rattle.fix_core.specs.declared.nodes.Node.{Node}
use Rattle.fix_engine.specs.declared.taking.Taken.{Taken}
use Rattle.fix_engine.specs.declared.taking.Taken.TheVariants.{All, Fault, Full as Over}
use Rattle.fix_core.specs.Explorations.{IsNode, IsEdge, IsChild, NoLater, IsHoused, IsCalm, EdgeDone}
use Rattle.fix_core.specs.Explorations.{EarlierDone, Done, Exploration, Full}
use Rattle.fix_core.specs.Follows.{IsMember, passed_by}
use Rattle.fix_core.specs.States.{AbstractState}
use Rattle.fix_successors.specs.Arriving.{Arrival, AreTargets}

-- the node that an edge leads to
abbrev pub child : ℕ → ℕ → Edge → AbstractState → Node
child p c e a =
    record { head = record { location = e.to; parent = Some p; edge = Some c; choice = e.choice }; state = a }

-- how an edge was taken up, by whether there was room for all of its states
abbrev pub all_or_full : Bool → Taken
all_or_full true = All
all_or_full false = Over

-- each node keeps its number
abbrev pub Grows : List Node → List Node → Type 0
Grows nodes more = (j : ℕ) (n : Node) → IsNode nodes j n → IsNode more j n

module _ (T : Boxes) (g : ControlGraph) where
  -- each member of the states is a member of a node of the location
  abbrev pub AreHoused : List Node → ℕ → List Arrival → Type 0
  AreHoused nodes location arrivals =
      Every (λ (x : Arrival). (s : Store) → IsMember T x.state.forest s → IsHoused T g nodes location s) arrivals

  -- a fault on an edge of node `at`, of which the edges before are done
  pub record IsFault (nodes : List Node) (at c : ℕ) (bad : Bad) : Type 0 where
    pub node : Node
    pub is : IsNode nodes at node
    pub edge : Edge
    pub is_edge : IsEdge g c edge
    pub from : edge.from ≡ node.head.location
    pub members : (s : Store) → IsMember T bad.at.forest s → IsMember T node.state.forest s
        × (passed_by T edge s ≡ Faulted bad.fault)
    pub face : bad.at.face ≡ T.face
    pub sound : IsSound T.face bad.at.forest
    pub earlier : EarlierDone T g nodes node c

  module _ (k : ℕ) where
    -- the states are those to which edge c of node `at` leads, on which no member of the node meets a fault
    pub record AreDue (nodes : List Node) (at c : ℕ) (states : List AbstractState) : Type 0 where
      pub parent : Node
      pub is : IsNode nodes at parent
      pub edge : Edge
      pub is_edge : IsEdge g c edge
      pub from : edge.from ≡ parent.head.location
      pub calm : IsCalm T parent edge
      pub targets : AreTargets T g k parent.state.forest edge states

    -- In the middle of edge c of node `at`, of whose states these were taken up: the nodes before are done, and the
    -- edges before; and no node is a child of a later edge.
    pub record IsMid (nodes : List Node) (at c : ℕ) (before : List Arrival) : Type 0 where
      pub explored : Exploration T g k nodes
      pub inside : at < length nodes
      pub done : (j : ℕ) → j < at → Done T g nodes j
      pub earlier : (parent : Node) → IsNode nodes at parent → EarlierDone T g nodes parent c
      pub last : (j : ℕ) (n : Node) (p d : ℕ) → IsNode nodes j n → IsChild n p d → NoLater p d at c
      pub those : (j : ℕ) (n : Node) → IsNode nodes j n → IsChild n at c
          → IsIn (record { state = n.state; grouped = explored.grouped j }) before

    -- the states of edge c of node `at` were taken up: all, or so many that a further node would go past the budget
    abbrev pub AreTaken : List Node → ℕ → ℕ → ℕ → List Arrival → List Node → Bool → Type 0
    AreTaken nodes at c budget before more true = IsMid more at c before × Grows nodes more × (length more ≤ budget)
        × ((e : Edge) → IsEdge g c e → AreHoused more e.to before)
    AreTaken nodes at c budget before more false = Exploration T g k more × Full T g k more budget

    -- so were the first i of the states to which the edge leads
    pub record AreFirstTaken (nodes : List Node) (at c budget : ℕ) (states : List AbstractState) (i : ℕ)
        (more : List Node) (room : Bool) : Type 0 where
      pub due : AreDue nodes at c states
      pub taken : AreTaken nodes at c budget (take i due.targets.arrivals) more room

    -- Edge c of node `at` was taken up whole.
    pub record IsEdgeTaken (nodes more : List Node) (at c : ℕ) : Type 0 where
      pub arrivals : List Arrival
      pub mid : IsMid more at c arrivals
      pub grows : Grows nodes more
      pub edge : (n : Node) (e : Edge) → IsNode more at n → IsEdge g c e → e.from ≡ n.head.location
          → EdgeDone T g more n e

    -- Between two edges of node `at`, of which those with the numbers `left` are to come: no node is a child of one of
    -- these.
    pub record IsStage (nodes : List Node) (at : ℕ) (left : List ℕ) : Type 0 where
      pub explored : Exploration T g k nodes
      pub inside : at < length nodes
      pub done : (j : ℕ) → j < at → Done T g nodes j
      pub taken : (n : Node) (c : ℕ) (e : Edge) → IsNode nodes at n → IsEdge g c e → e.from ≡ n.head.location
          → IsIn c left ⊎ EdgeDone T g nodes n e
      pub upto : (j : ℕ) (n : Node) (p d : ℕ) → IsNode nodes j n → IsChild n p d → p ≤ at
      pub early : (j : ℕ) (n : Node) (d : ℕ) → IsNode nodes j n → IsChild n at d → Every (λ c. d < c) left

    -- Between two nodes: those before `at` are done, and each node is a child of one of them.
    pub record IsFront (nodes : List Node) (at budget : ℕ) : Type 0 where
      pub explored : Exploration T g k nodes
      pub upto : at ≤ length nodes
      pub within : length nodes ≤ budget
      pub done : (j : ℕ) → j < at → Done T g nodes j
      pub early : (j : ℕ) (n : Node) (p d : ℕ) → IsNode nodes j n → IsChild n p d → p < at

    -- how an edge was taken up
    abbrev pub IsTakenEdge : List Node → ℕ → ℕ → ℕ → List Node → Taken → Type 0
    IsTakenEdge nodes at c budget more All = IsEdgeTaken nodes more at c × (length more ≤ budget)
    IsTakenEdge nodes at c budget more (Fault d bad) = IsFault more at d bad × (more ≡ nodes)
    IsTakenEdge nodes at c budget more Over = Exploration T g k more × Full T g k more budget

    -- how a node was taken up
    abbrev pub IsTakenNode : List Node → ℕ → ℕ → List Node → Taken → Type 0
    IsTakenNode nodes at budget more All = IsFront more (at + 1) budget × Grows nodes more
    IsTakenNode nodes at budget more (Fault d bad) = IsFault more at d bad × Exploration T g k more
        × ((j : ℕ) → j < at → Done T g more j) × (length more ≤ budget)
    IsTakenNode nodes at budget more Over = Exploration T g k more × Full T g k more budget
