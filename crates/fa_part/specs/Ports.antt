-- The ports of a part, each with its root, its struct and the fields that are taken there.
use Rattle.std.specs.Prelude.{◌≡◌, ◌<◌, ℕ, List, [], ◌∷◌, map, length, slice_get, Option, Some, None, IfSome}
use Rattle.fore_base.specs.Lists.{IsDistinct}
use Rattle.ta_core.specs.Auto.{Automaton}
use Rattle.ta_core.specs.declared.tree.Tree.{Tree}
use Rattle.fa_core.specs.Filled.{Choice}
use Rattle.fa_core.specs.Folding.{ArePartRoots, ArePortFields, IsPortRoot, Ports, taken_at}
use Rattle.fa_core.specs.declared.boxes.BoxDef.{BoxDef}
use Rattle.fa_core.specs.declared.faces.BoxFace.{BoxFace}
use Rattle.fa_core.specs.declared.forest.Forest.{Forest}
use Rattle.fa_part.specs.declared.ports.Port.{Port}
use Rattle.fa_part.specs.declared.ports.PortFields.{PortFields}

-- their roots with the fields that are taken there
abbrev pub ports_of : List Port → Ports
ports_of ps = map (λ (p : Port). (p.root, p.fields)) ps

abbrev pub shapes_of : List Port → List ℕ
shapes_of ps = map (λ (p : Port). p.shape) ps

abbrev pub roots_of : List Port → List ℕ
roots_of ps = map (λ (p : Port). p.root) ps

-- the inside has a component for the input, and one for the output where the box has one
abbrev pub HasPorts : Option ℕ → List Automaton → Type 0
HasPorts None autos = 0 < length autos
HasPorts (Some t) autos = 1 < length autos

-- the port's root is one of a port
abbrev pub IsPortOf : List Automaton → Port → Type 0
IsPortOf autos p = IsPortRoot autos p.root p.shape p.fields

-- no field is taken twice at the port's root
abbrev pub IsTakenOnce : List Port → Port → Type 0
IsTakenOnce ps p = IsDistinct (taken_at (ports_of ps) p.root)

-- whichever trees are taken, these are the inner roots
abbrev pub AreInnerRoots : Forest → Ports → List ℕ → Type 0
AreInnerRoots F ps inner = (ts : List Tree) → Choice F.autos ts → ArePartRoots F.vars ts ps inner

-- The fields that a box's ports cover.

-- the component is there, and these are the fields that slots at the tops of its trees cover
abbrev pub AreFieldsAt : List BoxFace → Option Automaton → List ℕ → Type 0
AreFieldsAt bs None fs = ⊥
AreFieldsAt bs (Some a) fs = ArePortFields bs a fs

-- those of the input, and of the output where the box has one
pub record AreFieldsOf (bs : List BoxFace) (b : BoxDef) (x : PortFields) : Type 0 where
  pub input : AreFieldsAt bs (slice_get b.inside.autos 0) x.input
  pub output : IfSome b.face.output (λ t. AreFieldsAt bs (slice_get b.inside.autos 1) x.output)

-- the ports with these fields at these roots
abbrev pub ports_by : PortFields → ℕ → Option ℕ → Ports
ports_by x i None = (i, x.input) ∷ []
ports_by x i (Some j) = (i, x.input) ∷ ((j, x.output) ∷ [])

-- the structs of a box at its ports
abbrev pub output_shapes : Option ℕ → List ℕ
output_shapes None = []
output_shapes (Some t) = t ∷ []

abbrev pub face_shapes : BoxFace → List ℕ
face_shapes f = f.input ∷ output_shapes f.output

-- the ports of box b at these roots, with these fields
pub record ArePortsAt (b : BoxDef) (x : PortFields) (i : ℕ) (out : Option ℕ) (ps : List Port) : Type 0 where
  pub ports : ports_of ps ≡ ports_by x i out
  pub shapes : shapes_of ps ≡ face_shapes b.face
