-- How often facts give a field to a cell, and how often its heads ask for it.
use Rattle.std.proofs.Common.{◌≡◌, ℕ, ◌+◌, Bool, true, false, cond, nat_eq, List, [], ◌∷◌, ◌++◌, refl, ap, ◌∙◌}
use Rattle.std.proofs.Common.{arith}
use Rattle.fore_base.specs.declared.shape.Shape.{Shape}
use Rattle.fore_base.specs.declared.store.Datum.{Datum}
use Rattle.fore_base.specs.declared.store.Value.{Value}
use Rattle.fore_base.specs.declared.store.Value.TheVariants.{Null as NullValue, Uninit as UninitValue}
use Rattle.fore_base.specs.declared.store.Value.TheVariants.{Dangling as DanglingValue, Cell}
use Rattle.fa_core.specs.Dressed.{Fact, Head, Points}
use Rattle.fa_core.specs.Filled.{fields_of}
use Rattle.fa_core.specs.Rearranged.{often}
use Rattle.fa_core.proofs.Counts.{often_both}
use Rattle.fa_facts.specs.Fields.{fields_at, fields_owed}

-- the number, where the test holds
abbrev pub if_so : Bool → ℕ → ℕ
if_so true k = k
if_so false k = 0

module _ (hs : List Shape) (c f : ℕ) where
  -- how often the facts give the field to the cell
  abbrev pub given_n : List Fact → ℕ
  given_n fs = often f (fields_at c fs)

  -- how often the cell's heads ask for it
  abbrev pub owed_n : List Fact → ℕ
  owed_n fs = often f (fields_owed hs c fs)

  -- the number, where m is the cell
  abbrev pub at_cell : ℕ → ℕ → ℕ
  at_cell m k = if_so (nat_eq c m) k

  -- the number, where the value names the cell
  abbrev pub at_value : Value → ℕ → ℕ
  at_value NullValue k = 0
  at_value UninitValue k = 0
  at_value DanglingValue k = 0
  at_value (Cell m) k = at_cell m k

  -- what the ports are given, where they are these values
  abbrev pub fields_sum : List Value → List (List ℕ) → ℕ
  fields_sum [] fields = 0
  fields_sum (v ∷ values) [] = 0
  fields_sum (v ∷ values) (fs ∷ fields) = at_value v (often f fs) + fields_sum values fields

  nothing_so : (b : Bool) → if_so b 0 ≡ 0
  nothing_so true = refl
  nothing_so false = refl

  pub nothing_at : (v : Value) → at_value v 0 ≡ 0
  nothing_at NullValue = refl
  nothing_at UninitValue = refl
  nothing_at DanglingValue = refl
  nothing_at (Cell m) = nothing_so (nat_eq c m)

  pub given_head : (m s : ℕ) (ds : List Datum) (fs : List Fact) → given_n (Head m s ds ∷ fs) ≡ given_n fs
  given_head m s ds fs = refl

  pub owed_head : (m s : ℕ) (ds : List Datum) (fs : List Fact)
      → owed_n (Head m s ds ∷ fs) ≡ at_cell m (often f (fields_of hs s)) + owed_n fs
  owed_head m s ds fs = here (nat_eq c m)
    where
      here : (b : Bool) → often f (cond b (fields_of hs s ++ fields_owed hs c fs) (fields_owed hs c fs))
          ≡ if_so b (often f (fields_of hs s)) + owed_n fs
      here true = often_both f (fields_of hs s) (fields_owed hs c fs)
      here false = omega arith

  pub given_points : (m g : ℕ) (v : Value) (fs : List Fact)
      → given_n (Points m g v ∷ fs) ≡ at_cell m (often f (g ∷ [])) + given_n fs
  given_points m g v fs = here (nat_eq c m)
    where
      here : (b : Bool) → often f (cond b (g ∷ fields_at c fs) (fields_at c fs))
          ≡ if_so b (often f (g ∷ [])) + given_n fs
      here true = often_both f (g ∷ []) (fields_at c fs)
      here false = omega arith

  -- two lists of facts

  fields_append : (xs ys : List Fact) → fields_at c (xs ++ ys) ≡ fields_at c xs ++ fields_at c ys
  fields_append [] ys = refl
  fields_append (Head m s ds ∷ xs) ys = fields_append xs ys
  fields_append (Points m g v ∷ xs) ys = here (nat_eq c m) (fields_append xs ys)
    where
      here : (b : Bool) → fields_at c (xs ++ ys) ≡ fields_at c xs ++ fields_at c ys
          → cond b (g ∷ fields_at c (xs ++ ys)) (fields_at c (xs ++ ys))
          ≡ cond b (g ∷ fields_at c xs) (fields_at c xs) ++ fields_at c ys
      here true e = ap (λ (z : List ℕ). g ∷ z) e
      here false e = e

  pub given_append : (xs ys : List Fact) → given_n (xs ++ ys) ≡ given_n xs + given_n ys
  given_append xs ys = ap (often f) (fields_append xs ys) ∙ often_both f (fields_at c xs) (fields_at c ys)

  pub owed_append : (xs ys : List Fact) → owed_n (xs ++ ys) ≡ owed_n xs + owed_n ys
  owed_append [] ys = omega arith
  owed_append (Points m g v ∷ xs) ys = owed_append xs ys
  owed_append (Head m s ds ∷ xs) ys =
      let h = owed_append xs ys in
      let l = owed_head m s ds (xs ++ ys) in
      let r = owed_head m s ds xs in
      omega (arith, h, l, r)
