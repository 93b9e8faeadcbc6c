-- What is true of each face of a table of boxes.
use Rattle.std.specs.Prelude.{◌≡◌, ◌≢◌, true, []}
use Rattle.fa_core.specs.declared.faces.BoxFace.{BoxFace}
use Rattle.fa_core.specs.Rearranged.{IsRising}

-- a box that leads back gives its output something
abbrev pub IsGiving : BoxFace → Type 0
IsGiving x = x.back ≡ true → x.gives_out ≢ []

-- the fields that a box gives at its ports stand in rising order
abbrev pub IsSortedFace : BoxFace → Type 0
IsSortedFace x = IsRising x.gives_in × IsRising x.gives_out
