-- The structs of a program by their names. The pointer fields and the data fields of a struct are numbered apart, each
-- kind in order of declaration.
use Rattle.std.specs.Prelude.{ℕ, Bool, true, false, not, List, [], ◌∷◌, ◌++◌, map, cond}
use Rattle.fore_base.specs.declared.shape.FieldKind.{FieldKind}
use Rattle.fore_base.specs.declared.shape.FieldKind.TheVariants.{Pointer, Datum}
use Rattle.fore_base.specs.declared.shape.FieldDef.{FieldDef}
use Rattle.fore_base.specs.declared.shape.Shape.{Shape}
use Rattle.fore_base.specs.declared.shape.Shapes.{Shapes}
use Rattle.fa_named.specs.Places.{Texts}
use Rattle.fa_named.specs.declared.named.Fields.{Fields}
use Rattle.fa_named.specs.declared.named.Known.{Known}

-- the field holds data, or a pointer, as is asked
abbrev pub is_kept : FieldKind → Bool → Bool
is_kept (Pointer s) of_data = not of_data
is_kept Datum of_data = of_data

abbrev pub kept_name : Bool → FieldDef → Texts
kept_name of_data f = cond (is_kept f.kind of_data) (f.name ∷ []) []

-- the names of the data fields, or of the pointer fields, in order
abbrev pub field_names : Bool → List FieldDef → Texts
field_names of_data [] = []
field_names of_data (f ∷ fs) = kept_name of_data f ++ field_names of_data fs

abbrev pub fields_of : Shape → Fields
fields_of s = record { pointers = field_names false s.fields; datums = field_names true s.fields }

abbrev pub struct_names : List Shape → Texts
struct_names ss = map (λ s. s.name) ss

abbrev pub known_of : Shapes → Known
known_of shapes = record { names = struct_names shapes.structs; fields = map fields_of shapes.structs }
