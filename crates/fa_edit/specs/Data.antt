-- Another datum in a data field of a root.
use Rattle.std.specs.Prelude.{◌≡◌, ◌<◌, ℕ, List, [], length, Some, None, slice_get, slice_set}
use Rattle.fore_base.specs.declared.store.Datum.{Datum}
use Rattle.ta_core.specs.declared.symbol.Symbol.{Symbol}
use Rattle.ta_core.specs.declared.symbol.Symbol.TheVariants.{Null, Uninit, Dangling, Ref, Cell}
use Rattle.fa_core.specs.Dressed.{Node, Nodes, node}
use Rattle.fa_core.specs.Member.{OfForest}
use Rattle.fa_core.specs.declared.boxes.BoxDef.{BoxDef}
use Rattle.fa_core.specs.declared.forest.Forest.{Forest}
use Rattle.fa_back.specs.Reached.{node_at}
use Rattle.fa_sound.specs.Components.{component_at}
use Rattle.fa_split.specs.Split.{top_rule}
use Rattle.fa_edit.specs.Leaves.{put_at}

-- the data of a cell
abbrev pub top_datums : Node → List Datum
top_datums (node c s ds ps) = ds

-- the cell with the datum x in data field f
abbrev pub with_datum : ℕ → Datum → Node → Node
with_datum f x (node c s ds ps) = node c s (slice_set ds f x) ps

-- the dressed forest with the datum x in data field f of root r
abbrev pub datum_put : ℕ → ℕ → Datum → Nodes → Nodes
datum_put r f x d = put_at r (with_datum f x) d

-- the datum y is in data field f of root r
abbrev pub HasDatum : Nodes → ℕ → ℕ → Datum → Type 0
HasDatum d r f y = (n : Node) × (node_at d r ≡ Some n) × (slice_get (top_datums n) f ≡ Some y)

-- in each dressed forest of F the datum y is in data field f of root r
abbrev pub AllHaveDatum : List BoxDef → Forest → ℕ → ℕ → Datum → Type 0
AllHaveDatum T F r f y = (d : Nodes) → OfForest T F d → HasDatum d r f y

-- root r has no data field f
abbrev pub LacksDatum : Nodes → ℕ → ℕ → Type 0
LacksDatum d r f = (n : Node) × (node_at d r ≡ Some n) × (slice_get (top_datums n) f ≡ None)

-- in each dressed forest of F root r has no data field f
abbrev pub AllLackDatum : List BoxDef → Forest → ℕ → ℕ → Type 0
AllLackDatum T F r f = (d : Nodes) → OfForest T F d → LacksDatum d r f

-- the data of a cell's symbol
abbrev pub symbol_datums : Symbol → List Datum
symbol_datums Null = []
symbol_datums Uninit = []
symbol_datums Dangling = []
symbol_datums (Ref r) = []
symbol_datums (Cell s ds ss) = ds

-- the data at the top of root r, which has one rule
abbrev pub datums_at : Forest → ℕ → List Datum
datums_at F r = symbol_datums (top_rule (component_at F.autos r)).symbol

-- the one rule of root r has data field f
abbrev pub HasDatumField : Forest → ℕ → ℕ → Type 0
HasDatumField F r f = f < length (datums_at F r)

-- in each dressed forest of F the datum y is in data field f of root r; with the datum z in its place it is one of G,
-- and the other way
pub record IsDatumPut (T : List BoxDef) (F G : Forest) (r f : ℕ) (y z : Datum) : Type 0 where
  pub vars : G.vars ≡ F.vars
  pub data_vars : G.data_vars ≡ F.data_vars
  pub old : AllHaveDatum T F r f y
  pub forth : (d : Nodes) → OfForest T F d → OfForest T G (datum_put r f z d)
  pub new : AllHaveDatum T G r f z
  pub back : (d : Nodes) → OfForest T G d → OfForest T F (datum_put r f y d)
