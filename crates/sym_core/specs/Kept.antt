-- Which box edges an edge of a control graph needs, and that the others are kept.
use Rattle.std.specs.Prelude.{◌≡◌, ◌⊎◌, ℕ, List, Option, Some, None}
use Rattle.fore_base.specs.Heap.{IsAlike}
use Rattle.fore_base.specs.Lists.{IsIn}
use Rattle.fore_base.specs.Stores.{var_of}
use Rattle.fore_base.specs.declared.store.Store.{Store}
use Rattle.fore_base.specs.declared.store.Value.TheVariants.{Cell}
use Rattle.ta_core.specs.declared.symbol.Slot.TheVariants.{Link, Hook}
use Rattle.fa_core.specs.Dressed.{Nodes, Seen, SeenField, SeenLink, SeenHook, SeenCell, cells}
use Rattle.fa_core.specs.Filled.{covers}
use Rattle.fa_core.specs.Member.{StandsBy}
use Rattle.fa_core.specs.Ways.{gives_out_of}
use Rattle.fa_core.specs.declared.boxes.BoxDef.{BoxDef}
use Rattle.fa_core.specs.declared.faces.BoxFace.{BoxFace}
use Rattle.fa_core.specs.declared.faces.Face.{Face}
use Rattle.fa_core.specs.declared.forest.Forest.{Forest}
use Rattle.c_cfg.specs.Edges.{Passed, gstep}
use Rattle.c_cfg.specs.declared.graph.Const.{Const}
use Rattle.c_cfg.specs.declared.graph.Const.TheVariants.{Null as ConstNull, Known as ConstKnown}
use Rattle.c_cfg.specs.declared.graph.Edge.{Edge}
use Rattle.c_cfg.specs.declared.graph.Instr.{Instr}
use Rattle.c_cfg.specs.declared.graph.Instr.TheVariants.{CopyPtr, LoadPtr, StorePtr, StoreConst, New, Free, Kill}
use Rattle.c_cfg.specs.declared.graph.Instr.TheVariants.{CopyData, LoadData, StoreData, TestPtr, TestData, Choose, Stop}

-- What an edge needs.

-- the variable whose cell the edge reads, writes or frees
abbrev pub base_of : Instr → Option ℕ
base_of (CopyPtr to from) = None
base_of (LoadPtr to b f) = Some b
base_of (StorePtr b f from) = Some b
base_of (StoreConst b f value) = Some b
base_of (New to shape) = None
base_of (Free b) = Some b
base_of (Kill ptrs datums) = None
base_of (CopyData to from) = None
base_of (LoadData to b f) = Some b
base_of (StoreData b f from) = Some b
base_of (TestPtr left right equal) = None
base_of (TestData left right equal) = None
base_of (Choose to) = None
base_of (Stop error) = None

-- storing the constant needs the pointer field g, where f is the field that is stored into
abbrev pub NeedsToStore : ℕ → Const → ℕ → Type 0
NeedsToStore f ConstNull g = g ≡ f
NeedsToStore f (ConstKnown k) g = ⊥

-- the edge needs the pointer field g at that cell
abbrev pub Needs : Instr → ℕ → Type 0
Needs (CopyPtr to from) g = ⊥
Needs (LoadPtr to b f) g = g ≡ f
Needs (StorePtr b f from) g = g ≡ f
Needs (StoreConst b f value) g = NeedsToStore f value g
Needs (New to shape) g = ⊥
Needs (Free b) g = Unit {0}
Needs (Kill ptrs datums) g = ⊥
Needs (CopyData to from) g = ⊥
Needs (LoadData to b f) g = ⊥
Needs (StoreData b f from) g = ⊥
Needs (TestPtr left right equal) g = ⊥
Needs (TestData left right equal) g = ⊥
Needs (Choose to) g = ⊥
Needs (Stop error) g = ⊥

-- the edge frees that cell
abbrev pub Frees : Instr → Type 0
Frees (CopyPtr to from) = ⊥
Frees (LoadPtr to b f) = ⊥
Frees (StorePtr b f from) = ⊥
Frees (StoreConst b f value) = ⊥
Frees (New to shape) = ⊥
Frees (Free b) = Unit {0}
Frees (Kill ptrs datums) = ⊥
Frees (CopyData to from) = ⊥
Frees (LoadData to b f) = ⊥
Frees (StoreData b f from) = ⊥
Frees (TestPtr left right equal) = ⊥
Frees (TestData left right equal) = ⊥
Frees (Choose to) = ⊥
Frees (Stop error) = ⊥

-- Box edges.

-- the slot is an edge of box b
abbrev pub IsEdgeOf : ℕ → Seen → Type 0
IsEdgeOf b (SeenField f v) = ⊥
IsEdgeOf b (SeenLink c inside v) = c ≡ b
IsEdgeOf b (SeenHook c inside) = c ≡ b

-- the box of the slot covers field g at its own cell
abbrev pub CoversAt : List BoxFace → Seen → ℕ → Type 0
CoversAt bs (SeenField f v) g = ⊥
CoversAt bs (SeenLink b inside v) g = IsIn g (covers bs (Link b))
CoversAt bs (SeenHook b inside) g = IsIn g (covers bs (Hook b))

-- the box of the slot gives field g to cell n, at its end
abbrev pub GivesAt : List BoxFace → Seen → ℕ → ℕ → Type 0
GivesAt bs (SeenField f v) n g = ⊥
GivesAt bs (SeenLink b inside v) n g = (v ≡ Cell n) × IsIn g (gives_out_of bs b)
GivesAt bs (SeenHook b inside) n g = ⊥

-- the slot x of cell c stands at the cell n that the edge reads, writes or frees, and that is freed, or x covers or
-- gives a field there that the edge needs
pub record IsExcepted (bs : List BoxFace) (i : Instr) (s : Store) (c : SeenCell) (x : Seen) : Type 0 where
  pub base : ℕ
  pub is_base : base_of i ≡ Some base
  pub cell : ℕ
  pub is_cell : var_of s base ≡ Cell cell
  pub why : (Frees i × (c.cell ≡ cell))
      ⊎ ((g : ℕ) × Needs i g × (((c.cell ≡ cell) × CoversAt bs x g) ⊎ GivesAt bs x cell g))

-- cell n has an edge of box b
abbrev pub HasBoxEdge : List SeenCell → ℕ → ℕ → Type 0
HasBoxEdge cs n b = (c : SeenCell) × IsIn c cs × (c.cell ≡ n) × ((x : Seen) × IsIn x c.slots × IsEdgeOf b x)

-- each box edge of d that is not excepted stands in e, where cells have their numbers by `to`
abbrev pub KeepsEdges : List BoxFace → Instr → Store → (ℕ → ℕ) → Nodes → Nodes → Type 0
KeepsEdges bs i s to d e = (c : SeenCell) → IsIn c (cells d) → (x : Seen) → IsIn x c.slots → (b : ℕ) → IsEdgeOf b x
    → (IsExcepted bs i s c x → ⊥) → HasBoxEdge (cells e) (to c.cell) b

-- the dressed forest d of the store u comes by the edge from one of F, whose box edges it has
pub record Comes (face : Face) (T : List BoxDef) (F : Forest) (e : Edge) (d : Nodes) (u : Store) : Type 0 where
  pub dressed : Nodes
  pub was : Store
  pub goes_to : Store
  pub stands : StandsBy face.shapes.structs T F dressed was
  pub goes : gstep face.shapes.structs e was ≡ Passed goes_to
  pub alike : IsAlike goes_to u
  pub edges : KeepsEdges face.boxes e.instr was alike.to dressed d

-- each dressed forest of M that stands for a store comes so
abbrev pub Keeps : Face → List BoxDef → Forest → Edge → Forest → Type 0
Keeps face T F e M = (d : Nodes) (u : Store) → StandsBy face.shapes.structs T M d u → Comes face T F e d u
