-- Why a box has no face.
use Rattle.std.specs.Prelude.{ℕ, List, Option}
use Rattle.ta_core.specs.Auto.{Automaton}
use Rattle.fa_core.specs.declared.boxes.BoxDef.{BoxDef}
use Rattle.fa_core.specs.declared.faces.Face.{Face}
use Rattle.fa_box_rules.specs.Rules.{Inside, BreaksFirst}
use Rattle.fa_faces.specs.declared.fault.FaceFault.{FaceFault}
use Rattle.fa_faces.specs.declared.fault.FaceFault.TheVariants.{Breaks, Memory}

-- a box before it has a face
abbrev pub box_inside : ℕ → Option ℕ → List Automaton → Inside
box_inside input output autos = record { input = input; output = output; autos = autos }

-- the rule is the first that the box breaks; of want of memory nothing is said
abbrev pub IsFaultOf : Face → List BoxDef → Inside → FaceFault → Type 0
IsFaultOf face T b (Breaks r) = BreaksFirst face T b r
IsFaultOf face T b Memory = Unit {0}
