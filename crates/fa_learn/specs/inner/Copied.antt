-- A table under way to be a copy of another.
use Rattle.std.specs.Prelude.{◌≡◌, ℕ, take}
use Rattle.fa_core.specs.Boxes.{Boxes, faces_of}

-- m has the structs of t and its first n boxes
pub record HasFirst (t : Boxes) (n : ℕ) (m : Boxes) : Type 0 where
  pub shapes : m.face.shapes ≡ t.face.shapes
  pub boxes : m.face.boxes ≡ faces_of (take n t.defs)
  pub defs : m.defs ≡ take n t.defs
