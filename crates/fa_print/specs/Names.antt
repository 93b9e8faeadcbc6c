-- The names that are printed in place of numbers.
use Rattle.std.specs.Prelude.{ℕ, zero, suc, true, false, List, [], ◌∷◌, ◌++◌, map, codes, decimal, slice_index_or}
use Rattle.fore_base.specs.declared.shape.Shape.{Shape}
use Rattle.fore_base.specs.Shapes.{fields_at}
use Rattle.c_types.specs.Program.{Program}
use Rattle.fa_core.specs.Boxes.{Boxes, names_of}
use Rattle.fa_named.specs.Structs.{struct_names, field_names}

abbrev pub Texts : Type 0
Texts = List (List ℕ)

-- the name of this number
abbrev pub name_at : Texts → ℕ → List ℕ
name_at names n = slice_index_or names n []

-- the name of a struct
abbrev pub struct_name : List Shape → ℕ → List ℕ
struct_name structs s = name_at (struct_names structs) s

-- the names of the pointer fields of a struct, in order
abbrev pub pointer_names : List Shape → ℕ → Texts
pointer_names structs s = field_names false (fields_at structs s)

-- the names of its data fields
abbrev pub datum_names : List Shape → ℕ → Texts
datum_names structs s = field_names true (fields_at structs s)

-- the name of a box
abbrev pub box_name : Boxes → ℕ → List ℕ
box_name table b = name_at (names_of table.defs) b

-- the name of a variable: the temporaries behind those that have names are $0, $1 and so on
abbrev pub variable_name : Texts → ℕ → List ℕ
variable_name [] n = codes "$" ++ decimal n
variable_name (name ∷ names) zero = name
variable_name (name ∷ names) (suc n) = variable_name names n

-- the names of a program's pointer variables
abbrev pub pointer_variables : Program → Texts
pointer_variables p = map (λ v. v.name) p.vars
