-- Marking the cells that values name.
use Rattle.std.specs.Prelude.{◌≡◌, ◌≤◌, ℕ, Bool, true, length, List, [], ◌∷◌, ◌++◌, if◌then◌else◌, Option}
use Rattle.std.specs.Prelude.{Some, None, slice_index_or, slice_set}
use Rattle.fore_base.specs.Marks.{marked_count}
use Rattle.fore_base.specs.declared.store.Value.{Value}
use Rattle.fore_base.specs.declared.store.Value.TheVariants.{Null, Uninit, Dangling, Cell}
use Rattle.fore_base.specs.declared.store.CellRec.{CellRec}
use Rattle.std.specs.Vec.{vec_capacity}
use Rattle.c_heap.specs.declared.leak.Marks.{Marks}
use Rattle.c_heap.specs.Rising.{position_in}

-- which cells are marked, by their positions, and in which order they were
pub record Marked : Type 0 where
  pub reached : List Bool
  pub order : List ℕ

abbrev pub seen : Marks → Marked
seen m = record { reached = m.reached.items; order = m.order.items }

-- there are as many positions as marks, and there is room for the position of each cell
abbrev pub IsCounted : Marks → Type 0
IsCounted m = (length m.order.items ≡ marked_count m.reached.items) × (length m.reached.items ≤ vec_capacity m.order)

-- the marks with the cell at a position marked, if there is one and it was not
abbrev pub noted_at : Option ℕ → Marked → Marked
noted_at None m = m
noted_at (Some i) m = if slice_index_or m.reached i true then m
    else record { reached = slice_set m.reached i true; order = m.order ++ i ∷ [] }

-- with the cell marked that a value names
abbrev pub noted : List CellRec → Value → Marked → Marked
noted cs Null m = m
noted cs Uninit m = m
noted cs Dangling m = m
noted cs (Cell n) m = noted_at (position_in cs n) m

abbrev pub noted_all : List CellRec → List Value → Marked → Marked
noted_all cs [] m = m
noted_all cs (v ∷ vs) m = noted_all cs vs (noted cs v m)
