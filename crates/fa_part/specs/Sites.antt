-- Where an edge of a box could stand in a forest.
use Rattle.std.specs.Prelude.{ℕ, ◌<◌, length, slice_get, Option, Some, None, IfSome}
use Rattle.fa_core.specs.Boxes.{Boxes}
use Rattle.fa_core.specs.declared.boxes.BoxDef.{BoxDef}
use Rattle.fa_core.specs.declared.forest.Forest.{Forest}

-- an output is named exactly where the box has one
abbrev pub OutputFits : Option ℕ → Option ℕ → Type 0
OutputFits None None = Unit {0}
OutputFits None (Some j) = ⊥
OutputFits (Some t) None = ⊥
OutputFits (Some t) (Some j) = Unit {0}

-- the box is there, and an output is named exactly where it has one
abbrev pub BoxFits : Option BoxDef → Option ℕ → Type 0
BoxFits None out = ⊥
BoxFits (Some b) out = OutputFits b.face.output out

-- box n is in the table, root i is in the forest, and so is the root at the output, where the box has one
pub record IsSite (T : Boxes) (F : Forest) (n i : ℕ) (out : Option ℕ) : Type 0 where
  pub fits : BoxFits (slice_get T.defs n) out
  pub input : i < length F.autos
  pub output : IfSome out (λ j. j < length F.autos)
