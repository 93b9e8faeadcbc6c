-- Fields of structs, by number.
use Rattle.std.proofs.Common.{◌≡◌, ◌≤◌, ◌<◌, ℕ, zero, suc, ◌+◌, List, [], ◌∷◌, length, get_or, refl, arith}
use Rattle.fore_base.specs.declared.shape.FieldKind.{FieldKind}
use Rattle.fore_base.specs.declared.shape.FieldKind.TheVariants.{Pointer, Datum}
use Rattle.fore_base.specs.declared.shape.FieldDef.{FieldDef}
use Rattle.fore_base.specs.declared.shape.Shape.{Shape}
use Rattle.fore_base.specs.Shapes.{target_before, datum_before, targets_in, datums_in, fields_at, targets_of, datums_of}

pub fields_within : (ss : List Shape) (n : ℕ) (s : Shape) → n < length ss → fields_at ss n ≡ (get_or ss n s).fields
fields_within [] n s less = absurd (omega (arith, less))
fields_within (t ∷ ss) zero s less = refl
fields_within (t ∷ ss) (suc n) s less = fields_within ss n s (omega (arith, less))

pub no_fields_past : (ss : List Shape) (n : ℕ) → length ss ≤ n → fields_at ss n ≡ []
no_fields_past [] n past = refl
no_fields_past (t ∷ ss) zero past = absurd (omega (arith, past))
no_fields_past (t ∷ ss) (suc n) past = no_fields_past ss n (omega (arith, past))

-- a field is a pointer or a datum
pub fields_split : (fs : List FieldDef) → length fs ≡ length (targets_in fs) + datums_in fs
fields_split [] = omega arith
fields_split (f ∷ fs) = here f.kind (fields_split fs)
  where
    here : (k : FieldKind) → length fs ≡ length (targets_in fs) + datums_in fs → suc (length fs)
        ≡ length (target_before k (targets_in fs)) + datum_before k (datums_in fs)
    here (Pointer s) rest = omega (arith, rest)
    here Datum rest = omega (arith, rest)

pub targets_there : (ss : List Shape) (n : ℕ) → targets_of ss n ≡ targets_in (fields_at ss n)
targets_there [] n = refl
targets_there (s ∷ ss) zero = refl
targets_there (s ∷ ss) (suc n) = targets_there ss n

pub datums_there : (ss : List Shape) (n : ℕ) → datums_of ss n ≡ datums_in (fields_at ss n)
datums_there [] n = refl
datums_there (s ∷ ss) zero = refl
datums_there (s ∷ ss) (suc n) = datums_there ss n
