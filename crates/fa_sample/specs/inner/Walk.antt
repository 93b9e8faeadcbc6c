-- A walk through trees: what is still to be done stands in a list of tasks, the last of which comes first.
use Rattle.std.specs.Prelude.{ℕ, suc, ◌+◌, List, [], ◌∷◌, ◌++◌, map, length}
use Rattle.fore_base.specs.Lists.{sum_of}
use Rattle.ta_core.specs.declared.symbol.Slot.{Slot}
use Rattle.ta_core.specs.declared.symbol.Symbol.{Symbol}
use Rattle.ta_core.specs.declared.symbol.Symbol.TheVariants.{Null, Uninit, Dangling, Ref, Cell}
use Rattle.ta_core.specs.declared.tree.Tree.{Tree, out-Tree, fold-Tree}
use Rattle.fore_base.specs.declared.store.Value.{Value}
use Rattle.fore_base.specs.declared.store.Value.TheVariants.{Null as NullValue, Uninit as UninitValue}
use Rattle.fore_base.specs.declared.store.Value.TheVariants.{Dangling as DanglingValue, Cell as CellValue}
use Rattle.fa_core.specs.Dressed.{Parts, no_parts, Fact, nth_value}
use Rattle.fa_sample.specs.declared.drafts.Draft.{Draft}
use Rattle.fa_sample.specs.declared.walking.Task.{Task}
use Rattle.fa_sample.specs.inner.Dressing.{Insides, made, parts_made}
use Rattle.fa_sample.specs.inner.Emitted.{slots_out}
use Rattle.fa_sample.specs.inner.Written.{new_draft, written}

-- the slots of a cell that are left, and the trees below them
pub record Todo : Type 0 where
  pub cell : ℕ
  pub slots : List Slot
  pub trees : List Tree

-- what a task speaks of
abbrev pub seen : Task → Todo
seen t = record { cell = t.cell; slots = t.slots.now; trees = t.trees.now }

-- the slots of the task, made from the next free number on
abbrev pub task_made : Insides → List Value → Todo → ℕ → Parts × ℕ
task_made ins vs t k = parts_made ins vs t.slots (map (made ins vs) t.trees) t.cell k

-- the facts that the tasks write from the next free number on, and the number that is free then
abbrev pub pending : Insides → List Value → List Todo → ℕ → List Fact × ℕ
pending ins vs [] k = ([], k)
pending ins vs (t ∷ ts) k = (
  (pending ins vs ts k).0 ++ slots_out vs t.cell (task_made ins vs t (pending ins vs ts k).1).0,
  (task_made ins vs t (pending ins vs ts k).1).1,
)

-- what tasks make of the cells, from the next free number on, and the number that is free then
abbrev pub made_from : Insides → List Value → List Todo → ℕ → List Draft → List Draft × ℕ
made_from ins vs ts k cs = (written (pending ins vs ts k).0 cs, (pending ins vs ts k).1)

-- the same where the next number follows the cells
abbrev pub ends : Insides → List Value → List Todo → List Draft → List Draft × ℕ
ends ins vs ts cs = made_from ins vs ts (suc (length cs)) cs

-- the value at the top of a tree whose top, if it is a cell, has this number; the values are those of the roots
abbrev pub value_by : List Value → Symbol → ℕ → Value
value_by vs Null own = NullValue
value_by vs Uninit own = UninitValue
value_by vs Dangling own = DanglingValue
value_by vs (Ref r) own = nth_value vs r
value_by vs (Cell s ds ss) own = CellValue own

abbrev pub top_value : List Value → Tree → ℕ → Value
top_value vs t = value_by vs (out-Tree t).symbol

-- the cells, and with them the top of a tree if it is a cell
abbrev pub reserved_by : Symbol → List Draft → List Draft
reserved_by Null cs = cs
reserved_by Uninit cs = cs
reserved_by Dangling cs = cs
reserved_by (Ref r) cs = cs
reserved_by (Cell s ds ss) cs = cs ++ new_draft s ds ∷ []

abbrev pub reserved : Tree → List Draft → List Draft
reserved t = reserved_by (out-Tree t).symbol

-- the tasks, and the slots of the top of a tree, if it is a cell, as the cell of this number
abbrev pub followed_by : Symbol → List Tree → ℕ → List Todo → List Todo
followed_by Null us own ts = ts
followed_by Uninit us own ts = ts
followed_by Dangling us own ts = ts
followed_by (Ref r) us own ts = ts
followed_by (Cell s ds ss) us own ts = ts ++ record { cell = own; slots = ss; trees = us } ∷ []

abbrev pub followed : Tree → ℕ → List Todo → List Todo
followed t = followed_by (out-Tree t).symbol (out-Tree t).children

-- Roots.

-- the cell of a root: where the tree is a leaf, one of struct 0 that has nothing
abbrev pub root_draft : Symbol → Draft
root_draft Null = new_draft 0 []
root_draft Uninit = new_draft 0 []
root_draft Dangling = new_draft 0 []
root_draft (Ref r) = new_draft 0 []
root_draft (Cell s ds ss) = new_draft s ds

-- the cells, and with them those of the roots that are no ports
abbrev pub roots_reserved : List Value → List Tree → List Draft → List Draft
roots_reserved ports [] cs = cs
roots_reserved (v ∷ ports) (t ∷ ts) cs = roots_reserved ports ts cs
roots_reserved [] (t ∷ ts) cs = roots_reserved [] ts (cs ++ root_draft (out-Tree t).symbol ∷ [])

-- the slots at the top of a tree, as those of cell c
abbrev pub top_made : Insides → List Value → Symbol → List Tree → ℕ → ℕ → Parts × ℕ
top_made ins vs Null ws c k = (no_parts, k)
top_made ins vs Uninit ws c k = (no_parts, k)
top_made ins vs Dangling ws c k = (no_parts, k)
top_made ins vs (Ref r) ws c k = (no_parts, k)
top_made ins vs (Cell s ds ss) ws c k = parts_made ins vs ss (map (made ins vs) ws) c k

-- the facts of a tree below the root that is this value, and the number that is free after them
abbrev pub root_out : Insides → List Value → Value → Tree → ℕ → List Fact × ℕ
root_out ins vs NullValue t k = ([], k)
root_out ins vs UninitValue t k = ([], k)
root_out ins vs DanglingValue t k = ([], k)
root_out ins vs (CellValue c) t k = (
  slots_out vs c (top_made ins vs (out-Tree t).symbol (out-Tree t).children c k).0,
  (top_made ins vs (out-Tree t).symbol (out-Tree t).children c k).1,
)

-- those of trees below roots that are these values
abbrev pub roots_out : Insides → List Value → List Value → List Tree → ℕ → List Fact × ℕ
roots_out ins vs [] ts k = ([], k)
roots_out ins vs (w ∷ ws) [] k = ([], k)
roots_out ins vs (w ∷ ws) (t ∷ ts) k = (
  (root_out ins vs w t k).0 ++ (roots_out ins vs ws ts (root_out ins vs w t k).1).0,
  (roots_out ins vs ws ts (root_out ins vs w t k).1).1,
)

-- what a tree makes of the cells below the root that is this value
abbrev pub root_ended : Insides → List Value → Value → Tree → List Draft → List Draft × ℕ
root_ended ins vs w t cs =
    (written (root_out ins vs w t (suc (length cs))).0 cs, (root_out ins vs w t (suc (length cs))).1)

-- what trees make of the cells, and the number that is free then
abbrev pub roots_ended : Insides → List Value → List Value → List Tree → List Draft → List Draft × ℕ
roots_ended ins vs ws ts cs = (
  written (roots_out ins vs ws ts (suc (length cs))).0 cs,
  (roots_out ins vs ws ts (suc (length cs))).1,
)

-- how much is still to be done: slots, and the trees below them
abbrev pub slot_count : Symbol → ℕ
slot_count Null = 0
slot_count Uninit = 0
slot_count Dangling = 0
slot_count (Ref r) = 0
slot_count (Cell s ds ss) = length ss

abbrev pub size : Tree → ℕ
size = fold-Tree ℕ (λ t. suc (slot_count t.symbol + sum_of t.children))

abbrev pub task_weight : Todo → ℕ
task_weight t = suc (length t.slots + sum_of (map size t.trees))

abbrev pub weight : List Todo → ℕ
weight ts = sum_of (map task_weight ts)
