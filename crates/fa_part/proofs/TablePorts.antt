-- Boxes of a table have a component for each of their ports.
use Rattle.std.proofs.Common.{◌≡◌, ℕ, zero, suc, ◌<◌, List, [], ◌∷◌, ◌++◌, length, subst, arith, Option, Some, None}
use Rattle.std.proofs.Common.{slice_get}
use Rattle.std.proofs.lemmas.Option.{none-some, same_Some}
use Rattle.fore_base.specs.declared.shape.Shapes.{Shapes}
use Rattle.ta_core.specs.Auto.{Automaton}
use Rattle.fa_core.specs.Boxes.{AreSoundOver, PortsCover}
use Rattle.fa_core.specs.declared.boxes.BoxDef.{BoxDef}
use Rattle.fa_core.specs.declared.faces.BoxFace.{BoxFace}
use Rattle.fa_part.specs.Sites.{BoxFits, OutputFits}
use Rattle.fa_part.specs.Ports.{HasPorts}

cover_ports : (bs : List BoxFace) (out : Option ℕ) (autos : List Automaton) → PortsCover bs out autos
    → HasPorts out autos
cover_ports bs out [] h = absurd h
cover_ports bs None (a ∷ autos) h = omega arith
cover_ports bs (Some t) (a ∷ []) h = absurd h
cover_ports bs (Some t) (a ∷ (c ∷ autos)) h = omega arith

pub table_ports : (shapes : Shapes) (before defs : List BoxDef) (n : ℕ) (b : BoxDef) → AreSoundOver shapes before defs
    → slice_get defs n ≡ Some b → HasPorts b.face.output b.inside.autos
table_ports shapes before [] n b h e = absurd (none-some b e)
table_ports shapes before (d ∷ defs) zero b h e =
    subst (λ (z : BoxDef). HasPorts z.face.output z.inside.autos) (same_Some d b e)
    (cover_ports _ d.face.output d.inside.autos h.0.ports)
table_ports shapes before (d ∷ defs) (suc n) b h e = table_ports shapes (before ++ d ∷ []) defs n b h.1 e

-- the box of a site is in the table
pub box_there : (defs : List BoxDef) (n : ℕ) (out : Option ℕ) → BoxFits (slice_get defs n) out → n < length defs
box_there [] n out h = absurd h
box_there (d ∷ defs) zero out h = omega arith
box_there (d ∷ defs) (suc n) out h = let l = box_there defs n out h in omega (arith, l)

pub output_fits : (o : Option BoxDef) (b : BoxDef) (out : Option ℕ) → o ≡ Some b → BoxFits o out
    → OutputFits b.face.output out
output_fits o b out e h = subst (λ (z : Option BoxDef). BoxFits z out) e h
