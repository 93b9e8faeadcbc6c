-- Names by number.
use Rattle.std.proofs.Common.{◌≡◌, ◌<◌, ◌≤◌, ◌+◌, ℕ, zero, suc, List, [], ◌∷◌, ◌++◌, Bool, true, false, map, length}
use Rattle.std.proofs.Common.{codes, decimal, get_or, refl, ap, arith}
use Rattle.fore_base.specs.declared.shape.FieldDef.{FieldDef}
use Rattle.fa_named.specs.Structs.{field_names, is_kept}
use Rattle.fa_print.specs.Names.{Texts, name_at, variable_name}

module _ {X : Type 0} (f : X → List ℕ) where
  pub name_within : (xs : List X) (n : ℕ) (x : X) → n < length xs → name_at (map f xs) n ≡ f (get_or xs n x)
  name_within [] n x less = absurd (omega (arith, less))
  name_within (y ∷ ys) zero x less = refl
  name_within (y ∷ ys) (suc n) x less = name_within ys n x (omega (arith, less))

  pub name_past : (xs : List X) (n : ℕ) → length xs ≤ n → name_at (map f xs) n ≡ []
  name_past [] n past = refl
  name_past (y ∷ ys) zero past = absurd (omega (arith, past))
  name_past (y ∷ ys) (suc n) past = name_past ys n (omega (arith, past))

  pub variable_within : (xs : List X) (n : ℕ) (x : X) → n < length xs → variable_name (map f xs) n ≡ f (get_or xs n x)
  variable_within [] n x less = absurd (omega (arith, less))
  variable_within (y ∷ ys) zero x less = refl
  variable_within (y ∷ ys) (suc n) x less = variable_within ys n x (omega (arith, less))

  pub variable_past : (xs : List X) (n k : ℕ) → n ≡ length xs + k → variable_name (map f xs) n ≡ codes "$" ++ decimal k
  variable_past [] n k is = ap (λ m. codes "$" ++ decimal m) (omega (arith, is))
  variable_past (y ∷ ys) zero k is = absurd (omega (arith, is))
  variable_past (y ∷ ys) (suc n) k is = variable_past ys n k (omega (arith, is))

pub text_within : (names : Texts) (n : ℕ) (x : List ℕ) → n < length names → variable_name names n ≡ get_or names n x
text_within [] n x less = absurd (omega (arith, less))
text_within (y ∷ ys) zero x less = refl
text_within (y ∷ ys) (suc n) x less = text_within ys n x (omega (arith, less))

pub text_past : (names : Texts) (n k : ℕ) → n ≡ length names + k → variable_name names n ≡ codes "$" ++ decimal k
text_past [] n k is = ap (λ m. codes "$" ++ decimal m) (omega (arith, is))
text_past (y ∷ ys) zero k is = absurd (omega (arith, is))
text_past (y ∷ ys) (suc n) k is = text_past ys n k (omega (arith, is))

-- the field in front is of another kind, is the one that is asked for, or stands before it
pub other_front : (of_data : Bool) (d : FieldDef) (ds : List FieldDef) (n : ℕ) → is_kept d.kind of_data ≡ false
    → name_at (field_names of_data (d ∷ ds)) n ≡ name_at (field_names of_data ds) n
other_front of_data d ds n is = rw is refl

pub this_front : (of_data : Bool) (d : FieldDef) (ds : List FieldDef) → is_kept d.kind of_data ≡ true
    → name_at (field_names of_data (d ∷ ds)) 0 ≡ d.name
this_front of_data d ds is = rw is refl

pub next_front : (of_data : Bool) (d : FieldDef) (ds : List FieldDef) (n : ℕ) → is_kept d.kind of_data ≡ true
    → name_at (field_names of_data (d ∷ ds)) (suc n) ≡ name_at (field_names of_data ds) n
next_front of_data d ds n is = rw is refl
