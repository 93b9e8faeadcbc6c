-- A forest without one of its roots: references to the root are Dangling, and later roots move down by one.
use Rattle.std.specs.Prelude.{◌≡◌, ◌<◌, ℕ, zero, suc, true, nat_eq, if◌then◌else◌, List, [], ◌∷◌, map, length}
use Rattle.std.specs.Prelude.{Some, slice_get}
use Rattle.fore_base.specs.Heap.{IsAlike}
use Rattle.fore_base.specs.Lists.{Every}
use Rattle.fore_base.specs.Stores.{dangle, without}
use Rattle.fore_base.specs.declared.shape.Shape.{Shape}
use Rattle.fore_base.specs.declared.store.Datum.{Datum}
use Rattle.fore_base.specs.declared.store.Store.{Store}
use Rattle.ta_core.specs.declared.symbol.Symbol.{Symbol}
use Rattle.ta_core.specs.declared.symbol.Symbol.TheVariants.{Null, Uninit, Dangling, Ref, Cell}
use Rattle.ta_core.specs.declared.tree.Tree.{Tree, out-Tree}
use Rattle.fa_core.specs.declared.boxes.BoxDef.{BoxDef}
use Rattle.fa_core.specs.declared.faces.BoxFace.{BoxFace}
use Rattle.fa_core.specs.declared.forest.Forest.{Forest}
use Rattle.fa_core.specs.declared.forest.Target.{Target}
use Rattle.fa_core.specs.declared.forest.Target.TheVariants.{Dangling as DanglingTarget, At}
use Rattle.fa_core.specs.Boxless.{IsField}
use Rattle.fa_core.specs.Cells.{is_leaf}
use Rattle.fa_core.specs.Dressed.{Parts, Nodes, node, no_parts, field, link, hook, under, leaf, no_nodes, more}
use Rattle.fa_core.specs.Filled.{Choice, given_at}
use Rattle.fa_core.specs.Member.{OfForest, StandsBy}
use Rattle.fa_core.specs.Placed.{placed_leaf, placed_all, placed_auto}
use Rattle.fa_back.specs.Reached.{node_at}
use Rattle.fa_merge.specs.Merged.{lowered}

-- the leaf of root k where root r is dropped
abbrev pub drop_leaf : ℕ → ℕ → Target
drop_leaf r k = if nat_eq r k then DanglingTarget else At (lowered r k)

-- the items but the one at place i
abbrev pub but_place : {X : Type 0} → ℕ → List X → List X
but_place i [] = []
but_place zero (x ∷ xs) = xs
but_place (suc i) (x ∷ xs) = x ∷ but_place i xs

-- the forest without root r
abbrev pub dropped_forest : ℕ → Forest → Forest
dropped_forest r F = record {
  autos = map (placed_auto (drop_leaf r)) (but_place r F.autos);
  vars = map (placed_leaf (drop_leaf r)) F.vars;
  data_vars = F.data_vars;
}

-- The condition.

-- a cell's slots are fields
abbrev pub HasFieldsOnly : Symbol → Type 0
HasFieldsOnly Null = ⊥
HasFieldsOnly Uninit = ⊥
HasFieldsOnly Dangling = ⊥
HasFieldsOnly (Ref r) = ⊥
HasFieldsOnly (Cell s ds ss) = Every IsField ss

-- a leaf stands at the end of each of the tree's fields, and it has no box edge
abbrev pub IsFlat : Tree → Type 0
IsFlat t = HasFieldsOnly (out-Tree t).symbol × Every (λ u. is_leaf (out-Tree u).symbol ≡ true) (out-Tree t).children

-- root r is idle: no box edge gives its cell a field, and none of its own trees gives a cell of a root one
pub record IsIdle (bs : List BoxFace) (F : Forest) (r : ℕ) : Type 0 where
  pub own : (ts : List Tree) → Choice F.autos ts → given_at bs ts r ≡ []
  pub out : (ts : List Tree) (t : Tree) → Choice F.autos ts → slice_get ts r ≡ Some t → (k : ℕ)
      → given_at bs (t ∷ []) k ≡ []

-- each tree of root r is a cell whose fields end at leaves, and no box edge gives a field there
pub record CanDrop (bs : List BoxFace) (F : Forest) (r : ℕ) : Type 0 where
  pub root : r < length F.autos
  pub flat : (ts : List Tree) (t : Tree) → Choice F.autos ts → slice_get ts r ≡ Some t → IsFlat t
  pub own : (ts : List Tree) → Choice F.autos ts → given_at bs ts r ≡ []

-- Dressed forests.

-- the trees but the r-th
abbrev pub without_node : ℕ → Nodes → Nodes
without_node r no_nodes = no_nodes
without_node zero (more n ns) = ns
without_node (suc r) (more n ns) = more n (without_node r ns)

-- the dressed forest without its root r
abbrev pub dropped : ℕ → Nodes → Nodes
dropped r d = placed_all (drop_leaf r) (without_node r d)

-- the slots are fields that end at leaves
abbrev pub AreLeaves : Parts → Type 0
AreLeaves no_parts = Unit {0}
AreLeaves (field f (leaf t) ps) = AreLeaves ps
AreLeaves (field f (under n) ps) = ⊥
AreLeaves (link b inside e ps) = ⊥
AreLeaves (hook b inside ps) = ⊥

-- root r is the cell of this number, whose fields end at leaves
abbrev pub IsFlatRoot : Nodes → ℕ → ℕ → Type 0
IsFlatRoot d r c = (s : ℕ) × (ds : List Datum) × (ps : Parts) × (node_at d r ≡ Some (node c s ds ps)) × AreLeaves ps

-- G is F without root r, whose fields end at leaves: on dressed forests
pub record IsCut (T : List BoxDef) (F G : Forest) (r : ℕ) : Type 0 where
  pub vars : G.vars ≡ map (placed_leaf (drop_leaf r)) F.vars
  pub data_vars : G.data_vars ≡ F.data_vars
  pub top : (d : Nodes) → OfForest T F d → (c : ℕ) × IsFlatRoot d r c
  -- each dressed forest of F without its root is one of G
  pub forth : (d : Nodes) → OfForest T F d → OfForest T G (dropped r d)
  -- each dressed forest of G is one of F without its root, which may have any number
  pub back : (d : Nodes) → OfForest T G d → (c : ℕ) → (e : Nodes) × OfForest T F e × (dropped r e ≡ d)
      × IsFlatRoot e r c

-- the store without the cell of this number: each value that names it is Dangling
abbrev pub without_cell : ℕ → Store → Store
without_cell n s = record s { vars = map (dangle n) s.vars; cells = without n s.cells }

-- each store that F stands for, without the cell of root r, is one that G stands for
abbrev pub Removes : List Shape → List BoxDef → Forest → Forest → ℕ → Type 0
Removes hs T F G r = (d : Nodes) (s : Store) → StandsBy hs T F d s → (c : ℕ) × IsFlatRoot d r c
    × StandsBy hs T G (dropped r d) (without_cell c s)

-- each store that G stands for is alike to one that F stands for without the cell of root r
abbrev pub Restores : List Shape → List BoxDef → Forest → Forest → ℕ → Type 0
Restores hs T F G r = (d : Nodes) (u : Store) → StandsBy hs T G d u → (e : Nodes) × (s : Store) × (c : ℕ)
    × IsFlatRoot e r c × StandsBy hs T F e s × IsAlike (without_cell c s) u
