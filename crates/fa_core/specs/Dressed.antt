-- Dressed forests: trees of numbered cells, with a dressed forest inside each box edge; and the facts that they state.
use Rattle.std.specs.Prelude.{ℕ, zero, suc, List, [], ◌∷◌, ◌++◌}
use Rattle.fore_base.specs.declared.store.Value.{Value}
use Rattle.fore_base.specs.declared.store.Value.TheVariants.{Null as NullValue, Uninit as UninitValue}
use Rattle.fore_base.specs.declared.store.Value.TheVariants.{Dangling as DanglingValue, Cell}
use Rattle.fore_base.specs.declared.store.Datum.{Datum}
use Rattle.fa_core.specs.declared.forest.Target.{Target}
use Rattle.fa_core.specs.declared.forest.Target.TheVariants.{Null, Uninit, Dangling, At}

mutual
  -- a cell: its number, its struct, its data, and one part for each slot
  pub data Node : Type 0 where
    node : (cell shape : ℕ) → List Datum → Parts → Node

  -- the slots of a cell in order: a field with its end; a box edge with its inside and its end; a box edge of a box
  -- without an output, with its inside
  pub data Parts : Type 0 where
    no_parts : Parts
    field : (f : ℕ) → End → Parts → Parts
    link : (b : ℕ) → Nodes → End → Parts → Parts
    hook : (b : ℕ) → Nodes → Parts → Parts

  -- where a slot ends: at a cell of the same tree, or at a leaf
  pub data End : Type 0 where
    under : Node → End
    leaf : Target → End

  -- one tree for each root
  pub data Nodes : Type 0 where
    no_nodes : Nodes
    more : Node → Nodes → Nodes

-- the cell's number
abbrev pub number : Node → ℕ
number (node c s ds ps) = c

-- What a root is: a list of values says it of each root. Inside a box edge the first roots are the ports, and what a
-- port is comes from outside.

-- each root is its cell
abbrev pub roots_of : Nodes → List Value
roots_of no_nodes = []
roots_of (more n ns) = Cell (number n) ∷ roots_of ns

-- the first roots are these values, and each further one is its cell
abbrev pub with_ports : List Value → Nodes → List Value
with_ports [] ns = roots_of ns
with_ports (v ∷ vs) no_nodes = []
with_ports (v ∷ vs) (more n ns) = v ∷ with_ports vs ns

-- the r-th of the values; Dangling where there is none
abbrev pub nth_value : List Value → ℕ → Value
nth_value [] r = DanglingValue
nth_value (v ∷ vs) zero = v
nth_value (v ∷ vs) (suc r) = nth_value vs r

-- what a leaf or a variable is, by what the roots are
abbrev pub value_in : List Value → Target → Value
value_in vs Null = NullValue
value_in vs Uninit = UninitValue
value_in vs Dangling = DanglingValue
value_in vs (At r) = nth_value vs r

-- what the end of a slot is
abbrev pub end_value : List Value → End → Value
end_value vs (under n) = Cell (number n)
end_value vs (leaf t) = value_in vs t

-- the head of a cell, or a pointer in a field of a cell
pub data Fact : Type 0 where
  Head : (cell shape : ℕ) → List Datum → Fact
  Points : (cell f : ℕ) → Value → Fact

abbrev mutual
  -- the facts of a tree, those of the insides of its box edges with them
  pub tree_facts : List Value → Node → List Fact
  tree_facts vs (node c s ds ps) = Head c s ds ∷ slot_facts vs c ps

  -- the facts of the slots of cell c and of what stands below them
  pub slot_facts : List Value → ℕ → Parts → List Fact
  slot_facts vs c no_parts = []
  slot_facts vs c (field f e ps) = Points c f (end_value vs e) ∷ (end_facts vs e ++ slot_facts vs c ps)
  slot_facts vs c (link b inside e ps) =
      forest_facts (with_ports (Cell c ∷ (end_value vs e ∷ [])) inside) (Cell c ∷ (end_value vs e ∷ [])) inside
      ++ (end_facts vs e ++ slot_facts vs c ps)
  slot_facts vs c (hook b inside ps) = forest_facts (with_ports (Cell c ∷ []) inside) (Cell c ∷ []) inside
      ++ slot_facts vs c ps

  -- the facts below an end
  pub end_facts : List Value → End → List Fact
  end_facts vs (under n) = tree_facts vs n
  end_facts vs (leaf t) = []

  -- the facts of a forest whose first roots are these ports
  pub forest_facts : List Value → List Value → Nodes → List Fact
  forest_facts vs ports no_nodes = []
  forest_facts vs [] (more n ns) = tree_facts vs n ++ forest_facts vs [] ns
  forest_facts vs (v ∷ ports) (more n ns) = port_facts vs v n ++ forest_facts vs ports ns

  -- the facts of a port that is the value v: it has no head here, and its slots are those of the cell that v names; it
  -- has none where v names no cell
  pub port_facts : List Value → Value → Node → List Fact
  port_facts vs (Cell m) (node c s ds ps) = slot_facts vs m ps
  port_facts vs NullValue (node c s ds ps) = []
  port_facts vs UninitValue (node c s ds ps) = []
  port_facts vs DanglingValue (node c s ds ps) = []

-- the facts of a dressed forest
abbrev pub facts : Nodes → List Fact
facts d = forest_facts (roots_of d) [] d

-- the facts of an inside whose ports are these values
abbrev pub inside_facts : List Value → Nodes → List Fact
inside_facts ports d = forest_facts (with_ports ports d) ports d

-- Cells without the trees in which they stand.

-- a slot of a cell, with the value at its end
pub data Seen : Type 0 where
  SeenField : (f : ℕ) → Value → Seen
  SeenLink : (b : ℕ) → Nodes → Value → Seen
  SeenHook : (b : ℕ) → Nodes → Seen

-- a cell with its slots
pub record SeenCell : Type 0 where
  pub cell : ℕ
  pub shape : ℕ
  pub datums : List Datum
  pub slots : List Seen

-- the slots, each with the value at its end
abbrev pub seen : List Value → Parts → List Seen
seen vs no_parts = []
seen vs (field f e ps) = SeenField f (end_value vs e) ∷ seen vs ps
seen vs (link b inside e ps) = SeenLink b inside (end_value vs e) ∷ seen vs ps
seen vs (hook b inside ps) = SeenHook b inside ∷ seen vs ps

abbrev mutual
  -- the cells of a tree, those of insides left out
  pub tree_cells : List Value → Node → List SeenCell
  tree_cells vs (node c s ds ps) = record { cell = c; shape = s; datums = ds; slots = seen vs ps } ∷ below vs ps

  -- the cells below the slots
  pub below : List Value → Parts → List SeenCell
  below vs no_parts = []
  below vs (field f e ps) = end_cells vs e ++ below vs ps
  below vs (link b inside e ps) = end_cells vs e ++ below vs ps
  below vs (hook b inside ps) = below vs ps

  -- the cells below an end
  pub end_cells : List Value → End → List SeenCell
  end_cells vs (under n) = tree_cells vs n
  end_cells vs (leaf t) = []

-- the cells of all trees
abbrev pub forest_cells : List Value → Nodes → List SeenCell
forest_cells vs no_nodes = []
forest_cells vs (more n ns) = tree_cells vs n ++ forest_cells vs ns

-- the cells of a dressed forest, those of insides left out
abbrev pub cells : Nodes → List SeenCell
cells d = forest_cells (roots_of d) d

-- References.

-- the root to which a leaf refers, if any
abbrev pub leaf_refs : Target → List ℕ
leaf_refs Null = []
leaf_refs Uninit = []
leaf_refs Dangling = []
leaf_refs (At k) = k ∷ []

abbrev mutual
  -- the roots to which the leaves of a tree refer, in the order of a walk through it, those of insides left out
  pub refs : Node → List ℕ
  refs (node c s ds ps) = refs_of ps

  -- the roots to which the slots and what stands below them refer
  pub refs_of : Parts → List ℕ
  refs_of no_parts = []
  refs_of (field f e ps) = end_refs e ++ refs_of ps
  refs_of (link b inside e ps) = end_refs e ++ refs_of ps
  refs_of (hook b inside ps) = refs_of ps

  -- the roots to which an end refers
  pub end_refs : End → List ℕ
  end_refs (under n) = refs n
  end_refs (leaf t) = leaf_refs t

-- the roots to which all trees refer
abbrev pub all_refs : Nodes → List ℕ
all_refs no_nodes = []
all_refs (more n ns) = refs n ++ all_refs ns
