-- Boxes over the structs of a program, and the first line that breaks a rule of names.
use Rattle.std.specs.Prelude.{◌≡◌, ℕ, List, [], ◌∷◌, ◌++◌, map, Option, Some, None}
use Rattle.fore_base.specs.declared.shape.Shapes.{Shapes}
use Rattle.fa_core.specs.declared.forest.Forest.{Forest}
use Rattle.fa_written.specs.declared.draft.BoxDraft.{BoxDraft}
use Rattle.fa_named.specs.Breaks.{limit_faults, file_faults}
use Rattle.fa_named.specs.Earlier.{no_boxes, with_box}
use Rattle.fa_named.specs.Insides.{auto_of}
use Rattle.fa_named.specs.Places.{Texts, place}
use Rattle.fa_named.specs.Structs.{known_of}
use Rattle.fa_named.specs.declared.fault.NameFault.{NameFault}
use Rattle.fa_named.specs.declared.fault.NameFault.TheVariants.{K6, B2, B3, Memory}
use Rattle.fa_named.specs.declared.named.Boxes.{Boxes}
use Rattle.fa_named.specs.declared.named.Known.{Known}
use Rattle.fa_named.specs.declared.named.NamedBox.{NamedBox}

abbrev pub output_of : Texts → Option (List ℕ) → Option ℕ
output_of names None = None
output_of names (Some name) = Some (place name names)

abbrev pub box_of : Known → Boxes → BoxDraft → NamedBox
box_of known boxes b = record {
  name = b.head.name;
  input = place b.head.input known.names;
  output = output_of known.names b.head.output;
  inside = record { autos = map (auto_of known boxes.names) b.parts; vars = []; data_vars = [] };
}

-- each box over those before it
abbrev pub boxes_of : Known → Boxes → List BoxDraft → List NamedBox
boxes_of known boxes [] = []
boxes_of known boxes (b ∷ bs) = box_of known boxes b ∷ boxes_of known (with_box boxes b.head) bs

-- the faults of a file in their order: the 33rd box, then line by line
abbrev pub faults : Shapes → List BoxDraft → List NameFault
faults shapes bs = limit_faults bs ++ file_faults (known_of shapes) no_boxes bs

-- the names stand for something, and these are the boxes
abbrev pub AreNamed : Shapes → List BoxDraft → List NamedBox → Type 0
AreNamed shapes bs named = (faults shapes bs ≡ []) × (named ≡ boxes_of (known_of shapes) no_boxes bs)

abbrev pub first_of : List NameFault → Option NameFault
first_of [] = None
first_of (x ∷ xs) = Some x

-- the first fault, or memory ran out
abbrev pub IsFirst : List NameFault → NameFault → Type 0
IsFirst all (K6 line) = first_of all ≡ Some (K6 line)
IsFirst all (B2 line) = first_of all ≡ Some (B2 line)
IsFirst all (B3 line) = first_of all ≡ Some (B3 line)
IsFirst all Memory = Unit {0}
