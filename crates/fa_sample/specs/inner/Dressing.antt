-- A dressed forest of chosen trees: its cells are numbered as the walk meets them.
use Rattle.std.specs.Prelude.{ℕ, zero, suc, List, [], ◌∷◌, map, slice_index_or}
use Rattle.fore_base.specs.declared.store.Datum.{Datum}
use Rattle.fore_base.specs.declared.store.Value.{Value}
use Rattle.fore_base.specs.declared.store.Value.TheVariants.{Null as NullValue, Uninit as UninitValue}
use Rattle.fore_base.specs.declared.store.Value.TheVariants.{Dangling as DanglingValue, Cell as CellValue}
use Rattle.ta_core.specs.declared.symbol.Slot.{Slot}
use Rattle.ta_core.specs.declared.symbol.Slot.TheVariants.{Field, Link, Hook}
use Rattle.ta_core.specs.declared.symbol.Symbol.{Symbol}
use Rattle.ta_core.specs.declared.symbol.Symbol.TheVariants.{Null as NullSymbol, Uninit as UninitSymbol}
use Rattle.ta_core.specs.declared.symbol.Symbol.TheVariants.{Dangling as DanglingSymbol, Ref, Cell as CellSymbol}
use Rattle.ta_core.specs.declared.tree.Tree.{Tree, fold-Tree}
use Rattle.fa_core.specs.declared.forest.Target.{Target}
use Rattle.fa_core.specs.declared.forest.Target.TheVariants.{Null, Uninit, Dangling, At}
use Rattle.fa_core.specs.Dressed.{Node, Parts, End, Nodes, node, no_parts, field, link, hook, under, leaf, no_nodes}
use Rattle.fa_core.specs.Dressed.{more, value_in}

-- what is made of a tree: a leaf, or a cell whose slots are made when its number and the next free one are known; with
-- the slots comes the number that is free after them
pub data Making : Type 0 where
  Leaf : Target → Making
  Under : ℕ → List Datum → (ℕ → ℕ → Parts × ℕ) → Making

-- the inside of an edge of a box between these ports, from the next free number on, and the number that is free then
abbrev pub Insides : Type 0
Insides = ℕ → List Value → ℕ → Nodes × ℕ

-- the number that is free when the top has its own
abbrev pub begun : Making → ℕ → ℕ
begun (Leaf t) k = k
begun (Under s ds p) k = suc k

-- the value at the end, where the top, if it is a cell, has this number
abbrev pub top_of : List Value → Making → ℕ → Value
top_of vs (Leaf t) own = value_in vs t
top_of vs (Under s ds p) own = CellValue own

-- the end, and the number that is free after it
abbrev pub ended : Making → ℕ → ℕ → End × ℕ
ended (Leaf t) own k = (leaf t, k)
ended (Under s ds p) own k = (under (node own s ds (p own k).0), (p own k).1)

-- the slots of cell c, where these are the values of the roots
abbrev pub parts_made : Insides → List Value → List Slot → List Making → ℕ → ℕ → Parts × ℕ
parts_made ins vs [] ms c k = (no_parts, k)
parts_made ins vs (Hook b ∷ ss) ms c k = (
  hook b (ins b (CellValue c ∷ []) k).0 (parts_made ins vs ss ms c (ins b (CellValue c ∷ []) k).1).0,
  (parts_made ins vs ss ms c (ins b (CellValue c ∷ []) k).1).1,
)
parts_made ins vs (Field f ∷ ss) [] c k = (no_parts, k)
parts_made ins vs (Field f ∷ ss) (m ∷ ms) c k = (
  field f (ended m k (begun m k)).0 (parts_made ins vs ss ms c (ended m k (begun m k)).1).0,
  (parts_made ins vs ss ms c (ended m k (begun m k)).1).1,
)
parts_made ins vs (Link b ∷ ss) [] c k = (no_parts, k)
parts_made ins vs (Link b ∷ ss) (m ∷ ms) c k =
    let i = ins b (CellValue c ∷ (top_of vs m k ∷ [])) (begun m k) in
    let e = ended m k i.1 in
    let r = parts_made ins vs ss ms c e.1 in
    (link b i.0 e.0 r.0, r.1)

-- a tree by its symbol and its children
abbrev pub made_at : Insides → List Value → Symbol → List Making → Making
made_at ins vs NullSymbol ms = Leaf Null
made_at ins vs UninitSymbol ms = Leaf Uninit
made_at ins vs DanglingSymbol ms = Leaf Dangling
made_at ins vs (Ref r) ms = Leaf (At r)
made_at ins vs (CellSymbol s ds ss) ms = Under s ds (parts_made ins vs ss ms)

-- a tree
abbrev pub made : Insides → List Value → Tree → Making
made ins vs = fold-Tree Making (λ t. made_at ins vs t.symbol t.children)

-- Roots.

-- a root of this number: where the tree is a leaf, a cell of struct 0 that has nothing
abbrev pub root_made : Making → ℕ → ℕ → Node × ℕ
root_made (Leaf t) own k = (node own 0 [] no_parts, k)
root_made (Under s ds p) own k = (node own s ds (p own k).0, (p own k).1)

-- the trees of roots that are cells of their own, numbered from `own` on
abbrev pub roots_made : List Making → ℕ → ℕ → Nodes × ℕ
roots_made [] own k = (no_nodes, k)
roots_made (m ∷ ms) own k = (
  more (root_made m own k).0 (roots_made ms (suc own) (root_made m own k).1).0,
  (roots_made ms (suc own) (root_made m own k).1).1,
)

-- the port that is this value; it has no cells where the value names none
abbrev pub port_made : Value → Making → ℕ → Node × ℕ
port_made NullValue m k = ((root_made m 0 k).0, k)
port_made UninitValue m k = ((root_made m 0 k).0, k)
port_made DanglingValue m k = ((root_made m 0 k).0, k)
port_made (CellValue c) m k = root_made m c k

-- the trees of roots, of which the first are ports with these values
abbrev pub ports_made : List Value → List Making → ℕ → ℕ → Nodes × ℕ
ports_made [] ms own k = roots_made ms own k
ports_made (v ∷ ports) [] own k = (no_nodes, k)
ports_made (v ∷ ports) (m ∷ ms) own k = (
  more (port_made v m k).0 (ports_made ports ms own (port_made v m k).1).0,
  (ports_made ports ms own (port_made v m k).1).1,
)

-- the values of roots, of which the first are ports, and the others are cells numbered from `own` on
abbrev pub root_values : List Value → List Tree → ℕ → List Value
root_values ports [] own = []
root_values (v ∷ ports) (t ∷ ts) own = v ∷ root_values ports ts own
root_values [] (t ∷ ts) own = CellValue own ∷ root_values [] ts (suc own)

-- the number that is free when each root that is no port has its own
abbrev pub roots_begun : List Value → List Tree → ℕ → ℕ
roots_begun ports [] k = k
roots_begun (v ∷ ports) (t ∷ ts) k = roots_begun ports ts k
roots_begun [] (t ∷ ts) k = roots_begun [] ts (suc k)

-- the dressed forest of the trees, from the next free number on, and the number that is free then
abbrev pub forest_made : Insides → List Value → List Tree → ℕ → Nodes × ℕ
forest_made ins ports ts k =
    ports_made ports (map (made ins (root_values ports ts k)) ts) k (roots_begun ports ts k)

-- insides of boxes whose trees these are, as many levels deep
abbrev pub insides_made : List (List Tree) → ℕ → Insides
insides_made boxes zero b ports k = (no_nodes, k)
insides_made boxes (suc n) b ports k =
    forest_made (insides_made boxes n) ports (slice_index_or boxes b []) k
