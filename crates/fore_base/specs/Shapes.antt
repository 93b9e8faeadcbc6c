-- The fields of structs by number. A struct's pointer fields and data fields are numbered apart, each kind in order of
-- declaration.
use Rattle.std.specs.Prelude.{ℕ, zero, suc, List, [], ◌∷◌}
use Rattle.fore_base.specs.declared.shape.FieldKind.{FieldKind}
use Rattle.fore_base.specs.declared.shape.FieldKind.TheVariants.{Pointer, Datum}
use Rattle.fore_base.specs.declared.shape.FieldDef.{FieldDef}
use Rattle.fore_base.specs.declared.shape.Shape.{Shape}

-- the structs to which the pointer fields point, with one field more in front
abbrev pub target_before : FieldKind → List ℕ → List ℕ
target_before (Pointer shape) targets = shape ∷ targets
target_before Datum targets = targets

-- how many data fields there are, with one field more in front
abbrev pub datum_before : FieldKind → ℕ → ℕ
datum_before (Pointer shape) count = count
datum_before Datum count = suc count

-- the structs to which the pointer fields point, in order
abbrev pub targets_in : List FieldDef → List ℕ
targets_in [] = []
targets_in (f ∷ fs) = target_before f.kind (targets_in fs)

-- how many data fields there are
abbrev pub datums_in : List FieldDef → ℕ
datums_in [] = 0
datums_in (f ∷ fs) = datum_before f.kind (datums_in fs)

-- the fields of the struct of a number; none where there is no such struct
abbrev pub fields_at : List Shape → ℕ → List FieldDef
fields_at [] n = []
fields_at (s ∷ ss) zero = s.fields
fields_at (s ∷ ss) (suc n) = fields_at ss n

-- the structs to which its pointer fields point, in order
abbrev pub targets_of : List Shape → ℕ → List ℕ
targets_of [] n = []
targets_of (s ∷ ss) zero = targets_in s.fields
targets_of (s ∷ ss) (suc n) = targets_of ss n

-- how many data fields it has
abbrev pub datums_of : List Shape → ℕ → ℕ
datums_of [] n = 0
datums_of (s ∷ ss) zero = datums_in s.fields
datums_of (s ∷ ss) (suc n) = datums_of ss n
