-- What a step needs to take no memory.
use Rattle.std.specs.Prelude.{◌≡◌, ◌<◌, ◌+◌, ℕ, List, length, Option, Some, None}
use Rattle.std.specs.Vec.{vec_capacity}
use Rattle.fore_base.specs.declared.shape.Shape.{Shape}
use Rattle.fore_base.specs.declared.store.CellRec.{CellRec}
use Rattle.fore_base.specs.declared.store.Store.{Store}
use Rattle.c_types.specs.Steps.{blank}
use Rattle.c_heap.specs.declared.spares.Rooms.{Rooms}
use Rattle.c_heap.specs.Marks.{HasRoomFor}

-- the cell of this struct that a step makes, if it makes one
abbrev pub cell_for : List Shape → ℕ → Option ℕ → Option CellRec
cell_for shapes next None = None
cell_for shapes next (Some shape) = Some (blank shapes next shape)

-- a step that makes such a cell, or none, finds room for it and for the marks of the leak test
pub record IsRoomy (shapes : List Shape) (s : Store) (made : Option ℕ) (rooms : Rooms) : Type 0 where
  pub marks : HasRoomFor (length s.cells + 1) rooms.marks
  pub seats : length s.cells < vec_capacity rooms.seats
  pub blank : rooms.blank ≡ cell_for shapes s.next made
