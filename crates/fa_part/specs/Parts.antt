-- The part of a forest for a box, where there is one.
use Rattle.std.specs.Prelude.{ℕ, List, Option, Some, None}
use Rattle.fa_core.specs.Folding.{IsPart}
use Rattle.fa_core.specs.declared.boxes.BoxDef.{BoxDef}
use Rattle.fa_core.specs.declared.faces.BoxFace.{BoxFace}
use Rattle.fa_core.specs.declared.forest.Forest.{Forest}

-- the part of F for box b at root i and at the output; None where nothing is that part
abbrev pub IsPartOrNone : List BoxFace → Forest → BoxDef → ℕ → Option ℕ → Option BoxDef → Type 0
IsPartOrNone bs F b i out None = (g : BoxDef) → IsPart bs F b i out g → ⊥
IsPartOrNone bs F b i out (Some g) = IsPart bs F b i out g
