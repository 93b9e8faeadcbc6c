-- The texts of explorations.
use Rattle.std.specs.Prelude.{ℕ, suc, List, [], ◌∷◌, ◌++◌, flat_map, length, codes, decimal, slice_get}
use Rattle.std.specs.Prelude.{Option, Some, None}
use Rattle.fore_base.specs.declared.store.Store.{Store}
use Rattle.c_types.specs.Program.{Program}
use Rattle.c_types.specs.declared.mode.MallocMode.{MallocMode}
use Rattle.c_types.specs.declared.mode.MallocMode.TheVariants.{Always, MayFail}
use Rattle.c_cfg.specs.Graphs.{ControlGraph}
use Rattle.c_cfg.specs.declared.graph.Edge.{Edge}
use Rattle.fa_core.specs.Boxes.{Boxes}
use Rattle.fa_core.specs.declared.folds.FoldStep.{FoldStep}
use Rattle.fa_core.specs.declared.forest.Forest.{Forest}
use Rattle.fa_print.specs.Lines.{line}
use Rattle.fa_print.specs.Names.{Texts, box_name}
use Rattle.fa_print.specs.Texts.{forest_text, box_text, store_text}
use Rattle.fix_core.specs.States.{AbstractState}
use Rattle.fix_core.specs.declared.nodes.Node.{Node}
use Rattle.fix_core.specs.declared.nodes.NodeHead.{NodeHead}

-- a number, where there is one, and else a hyphen
abbrev pub number_word : Option ℕ → List ℕ
number_word None = codes "-"
number_word (Some n) = decimal n

-- The line that begins a node.

abbrev pub edge_line : Option Edge → ℕ
edge_line None = 0
edge_line (Some e) = e.line

-- the line in the file of the edge of this number
abbrev pub line_at : List Edge → ℕ → ℕ
line_at edges number = edge_line (slice_get edges number)

-- the node from which an edge of this number came, the edge, its line in the file, and its choice
abbrev pub edge_words : List Edge → ℕ → ℕ → Option ℕ → Texts
edge_words edges parent edge choice =
    codes "from" ∷ decimal parent ∷ codes "edge" ∷ decimal edge ∷ codes "line" ∷ decimal (line_at edges edge)
    ∷ codes "choice" ∷ number_word choice ∷ []

-- how a node was reached: by an edge from an earlier one; or it is the start
abbrev pub origin_words : List Edge → Option ℕ → Option ℕ → Option ℕ → Texts
origin_words edges (Some parent) (Some edge) choice = edge_words edges parent edge choice
origin_words edges (Some parent) None choice = codes "start" ∷ []
origin_words edges None edge choice = codes "start" ∷ []

-- the node of this number: its location, and how it was reached
abbrev pub head_line : List Edge → ℕ → NodeHead → List ℕ
head_line edges number h =
    line (codes "node" ∷ decimal number ∷ codes "loc" ∷ decimal h.location
    ∷ origin_words edges h.parent h.edge h.choice)

-- What a node is.

-- a fold: the box, the root at its input, and the root at its output, where it has one
abbrev pub fold_line : Boxes → FoldStep → List ℕ
fold_line table x = line (codes "fold" ∷ box_name table x.box_no ∷ decimal x.input ∷ number_word x.output ∷ [])

-- where the state was folded and abstracted: the folds, and the forest before them
abbrev pub middle_text : Boxes → Program → List FoldStep → Option Forest → List ℕ
middle_text table p folds None = []
middle_text table p folds (Some M) =
    flat_map (fold_line table) folds ++ (line (codes "middle" ∷ []) ++ forest_text table p M)

-- that, and then the forest
abbrev pub state_text : Boxes → Program → AbstractState → List ℕ
state_text table p a = middle_text table p a.folds a.middle ++ forest_text table p a.forest

abbrev pub node_text : Boxes → Program → List Edge → ℕ → Node → List ℕ
node_text table p edges number n = head_line edges number n.head ++ state_text table p n.state

-- nodes, the first of this number
abbrev pub nodes_text : Boxes → Program → List Edge → ℕ → List Node → List ℕ
nodes_text table p edges number [] = []
nodes_text table p edges number (n ∷ ns) =
    node_text table p edges number n ++ nodes_text table p edges (suc number) ns

-- The whole exploration.

-- what is said of a `malloc` that may fail
abbrev pub mode_words : MallocMode → Texts
mode_words Always = []
mode_words MayFail = codes "malloc-null" ∷ []

-- the height of the abstraction, how many abstract states are kept at most, how many there are, and whether `malloc`
-- may fail
abbrev pub count_line : MallocMode → ℕ → ℕ → ℕ → List ℕ
count_line mode height budget count =
    line (codes "height" ∷ decimal height ∷ codes "budget" ∷ decimal budget ∷ codes "nodes" ∷ decimal count
    ∷ mode_words mode)

-- the boxes of a table, in order
abbrev pub boxes_text : Boxes → List ℕ
boxes_text table = flat_map (box_text table) table.defs

-- an exploration of the graph of a program, whose `malloc` answers by a mode, by a table of boxes: that line, the
-- boxes, and each node in order
abbrev pub exploration_text : Boxes → Program → MallocMode → ControlGraph → ℕ → ℕ → List Node → List ℕ
exploration_text table p mode g height budget nodes =
    count_line mode height budget (length nodes) ++ (boxes_text table ++ nodes_text table p g.edges 0 nodes)

-- What a trace ends with: the members of its last node that meet the fault, and one of them.
abbrev pub last_text : Boxes → Program → Forest → Store → List ℕ
last_text table p last sample = line (codes "last" ∷ []) ++ (forest_text table p last ++ store_text p sample)
