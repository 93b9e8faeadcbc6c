-- Room for the marks of the leak test.
use Rattle.std.specs.Prelude.{◌≤◌, ℕ}
use Rattle.std.specs.Vec.{vec_capacity}
use Rattle.c_heap.specs.declared.leak.Marks.{Marks}

-- there is room for the marks of so many cells
abbrev pub HasRoomFor : ℕ → Marks → Type 0
HasRoomFor count m = (count ≤ vec_capacity m.reached) × (count ≤ vec_capacity m.order)

abbrev pub IsAsRoomy : Marks → Marks → Type 0
IsAsRoomy old new = (vec_capacity old.reached ≤ vec_capacity new.reached)
    × (vec_capacity old.order ≤ vec_capacity new.order)
