-- The fields that the ports of a box of a table cover.
use Rattle.std.specs.Prelude.{◌≡◌, ℕ, Some, slice_get}
use Rattle.fa_core.specs.Boxes.{Boxes}
use Rattle.fa_core.specs.declared.boxes.BoxDef.{BoxDef}
use Rattle.fa_part.specs.Ports.{AreFieldsOf}
use Rattle.fa_part.specs.declared.ports.PortFields.{PortFields}

-- they are those of box n
abbrev pub AreBoxFields : Boxes → ℕ → PortFields → Type 0
AreBoxFields T n x = (b : BoxDef) → slice_get T.defs n ≡ Some b → AreFieldsOf T.face.boxes b x
