-- Structs of which one has a field of a number.
use Rattle.std.proofs.Common.{◌≡◌, ◌⊎◌, inl, inr, ◌<◌, ◌≤◌, ℕ, zero, suc, ◌+◌, List, [], ◌∷◌, ◌++◌, length, get_or}
use Rattle.std.proofs.Common.{take, sym, ap, subst, ◌∙◌, arith}
use Rattle.fore_base.specs.declared.shape.FieldDef.{FieldDef}
use Rattle.fore_base.specs.declared.shape.Shape.{Shape}
use Rattle.fore_base.specs.Shapes.{targets_in, datums_in, fields_at, targets_of, datums_of}
use Rattle.fore_base.proofs.ListLemmas.{take_item}
use Rattle.fore_base.proofs.ShapeLemmas.{fields_within, targets_there, datums_there}
use Rattle.c_cfg.specs.Ranges.{IsPtrField, IsDataField}

-- what the fields of a struct meet where one struct more is there, those of an earlier one meet, or the struct's own
fields_push : (P : List FieldDef → Type 0) (xs : List Shape) (s : Shape) (k : ℕ) → (P [] → ⊥)
    → P (fields_at (xs ++ s ∷ []) k) → P (fields_at xs k) ⊎ P s.fields
fields_push P [] s zero none p = inr p
fields_push P [] s (suc k) none p = absurd (none p)
fields_push P (x ∷ xs) s zero none p = inl p
fields_push P (x ∷ xs) s (suc k) none p = fields_push P xs s k none p

fields_here : (ss : List Shape) (n : ℕ) (s : Shape) → n < length ss → s ≡ get_or ss n s → fields_at ss n ≡ s.fields
fields_here ss n s l e = fields_within ss n s l ∙ ap (λ (x : Shape). x.fields) (sym e)

module _ (field : ℕ) where
  abbrev HasPtr : List FieldDef → Type 0
  HasPtr fs = field < length (targets_in fs)

  abbrev HasDatum : List FieldDef → Type 0
  HasDatum fs = field < datums_in fs

  -- a struct at a place has the field
  pub ptr_field_here : (ss : List Shape) (n : ℕ) (s : Shape) → n < length ss → s ≡ get_or ss n s
      → field < length (targets_in s.fields) → IsPtrField ss field
  ptr_field_here ss n s l e h =
      record {
        shape = n;
        is_there = subst (λ (ts : List ℕ). field < length ts) (sym (targets_there ss n))
            (subst HasPtr (sym (fields_here ss n s l e)) h);
      }

  pub data_field_here : (ss : List Shape) (n : ℕ) (s : Shape) → n < length ss → s ≡ get_or ss n s
      → field < datums_in s.fields → IsDataField ss field
  data_field_here ss n s l e h =
      record {
        shape = n;
        is_there = subst (λ (m : ℕ). field < m) (sym (datums_there ss n))
            (subst HasDatum (sym (fields_here ss n s l e)) h);
      }

  -- a struct more that has not the field
  pub ptr_field_later : (ss : List Shape) (n : ℕ) (s : Shape) → n < length ss → s ≡ get_or ss n s
      → length (targets_in s.fields) ≤ field → (IsPtrField (take n ss) field → ⊥) → IsPtrField (take (n + 1) ss) field
      → ⊥
  ptr_field_later ss n s l e own none f =
      let t = take_item ss n s l e in
      let g = subst (λ (xs : List Shape). field < length (targets_of xs f.shape)) t f.is_there in
      let h = subst (λ (ts : List ℕ). field < length ts) (targets_there (take n ss ++ s ∷ []) f.shape) g in
      elim (fields_push HasPtr (take n ss) s f.shape (λ p. omega (arith, p)) h) [
        | inl i ↦ none
            (record {
              shape = f.shape;
              is_there = subst (λ (ts : List ℕ). field < length ts) (sym (targets_there (take n ss) f.shape)) i;
            })
        | inr j ↦ omega (arith, j, own)
      ]

  pub data_field_later : (ss : List Shape) (n : ℕ) (s : Shape) → n < length ss → s ≡ get_or ss n s
      → datums_in s.fields ≤ field → (IsDataField (take n ss) field → ⊥) → IsDataField (take (n + 1) ss) field → ⊥
  data_field_later ss n s l e own none f =
      let t = take_item ss n s l e in
      let g = subst (λ (xs : List Shape). field < datums_of xs f.shape) t f.is_there in
      let h = subst (λ (m : ℕ). field < m) (datums_there (take n ss ++ s ∷ []) f.shape) g in
      elim (fields_push HasDatum (take n ss) s f.shape (λ p. omega (arith, p)) h) [
        | inl i ↦ none
            (record {
              shape = f.shape;
              is_there = subst (λ (m : ℕ). field < m) (sym (datums_there (take n ss) f.shape)) i;
            })
        | inr j ↦ omega (arith, j, own)
      ]
