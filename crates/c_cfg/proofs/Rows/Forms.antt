-- Short words for the stores, edges and programs of the rows.
use Rattle.std.proofs.Common.{ℕ, Bool, None, Some, List, [], ◌∷◌, replicate}
use Rattle.fore_base.specs.declared.shape.Shape.{Shape}
use Rattle.fore_base.specs.declared.shape.FieldDef.{FieldDef}
use Rattle.fore_base.specs.declared.shape.FieldKind.TheVariants.{Pointer, Datum as DatumKind}
use Rattle.fore_base.specs.declared.store.Value.{Value}
use Rattle.fore_base.specs.declared.store.Datum.{Datum}
use Rattle.fore_base.specs.declared.store.CellRec.{CellRec}
use Rattle.fore_base.specs.declared.store.Store.{Store}
use Rattle.c_types.specs.declared.program.Path.{Path}
use Rattle.c_types.specs.declared.program.Stmt.{Stmt}
use Rattle.c_types.specs.declared.program.Stmt.TheVariants.{Group}
use Rattle.c_types.specs.Program.{Program}
use Rattle.c_cfg.specs.declared.graph.Instr.{Instr}
use Rattle.c_cfg.specs.declared.graph.Edge.{Edge}
use Rattle.c_cfg.specs.Graphs.{ControlGraph}

-- Structs

abbrev pub pointer_to : ℕ → FieldDef
pointer_to shape = record { name = []; kind = Pointer shape }

abbrev pub datum : FieldDef
datum = record { name = []; kind = DatumKind }

-- struct node { struct node *next; int key; struct leaf *leaf; };  struct leaf { int low; int high; };
abbrev pub two : List Shape
two = record { name = []; fields = pointer_to 0 ∷ datum ∷ pointer_to 1 ∷ [] }
    ∷ record { name = []; fields = datum ∷ datum ∷ [] } ∷ []

-- Cells: a node of a number, and a leaf

abbrev pub node : ℕ → Datum → Value → Value → CellRec
node number key next leaf = record { number = number; shape = 0; datums = key ∷ []; fields = next ∷ leaf ∷ [] }

abbrev pub leaf : ℕ → Datum → Datum → CellRec
leaf number low high = record { number = number; shape = 1; datums = low ∷ high ∷ []; fields = [] }

abbrev pub store : List Value → List Datum → List CellRec → ℕ → Store
store vars datums cells next = record { vars = vars; data_vars = datums; cells = cells; next = next }

-- Paths: x, x->f, x->f->g

abbrev pub var : ℕ → Path
var x = record { var = x; fields = [] }

abbrev pub arrow : ℕ → ℕ → Path
arrow x f = record { var = x; fields = f ∷ [] }

abbrev pub arrows : ℕ → ℕ → ℕ → Path
arrows x f g = record { var = x; fields = f ∷ g ∷ [] }

abbrev pub three : ℕ → ℕ → ℕ → ℕ → Path
three x f g h = record { var = x; fields = f ∷ g ∷ h ∷ [] }

-- Edges without a choice, and with one

abbrev pub goes : ℕ → ℕ → Instr → ℕ → Edge
goes from to instr line = record { from = from; to = to; instr = instr; choice = None; line = line }

abbrev pub takes : ℕ → ℕ → Instr → ℕ → ℕ → Edge
takes from to instr x line = record { from = from; to = to; instr = instr; choice = Some x; line = line }

-- a graph over the structs above
abbrev pub graph : ℕ → ℕ → ℕ → List Edge → List Bool → ControlGraph
graph locations ptrs datums edges heads =
    record {
      locations = locations;
      ptrs = ptrs;
      datums = datums;
      edges = edges;
      heads = heads;
      shapes = record { structs = two };
    }

-- a program over the structs above, with so many pointer variables to nodes and data variables, whose block declares
-- nothing
abbrev pub main : ℕ → ℕ → List Stmt → Program
main ptrs datums body =
    record {
      shapes = record { structs = two };
      vars = replicate ptrs (record { name = []; shape = 0 });
      data_vars = replicate datums [];
      funcs = [];
      body = Group body [] [] 0 ∷ [];
    }
