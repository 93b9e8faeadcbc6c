-- Items at the places of lists of which one is set, or one more stands behind.
use Rattle.std.proofs.Common.{◌≡◌, ◌≢◌, ℕ, zero, suc, ◌<◌, length, List, [], ◌∷◌, ◌++◌, refl, ap, slice_get, slice_set}
use Rattle.std.proofs.Common.{Some, arith}
use Rattle.std.proofs.lemmas.Option.{none-some}

module _ {X : Type 0} where
  pub set_here : (xs : List X) (i : ℕ) (x y : X) → slice_get xs i ≡ Some x → slice_get (slice_set xs i y) i ≡ Some y
  set_here [] i x y e = absurd (none-some x e)
  set_here (z ∷ xs) zero x y e = refl
  set_here (z ∷ xs) (suc i) x y e = set_here xs i x y e

  pub set_other : (xs : List X) (i j : ℕ) (y : X) → j ≢ i → slice_get (slice_set xs i y) j ≡ slice_get xs j
  set_other [] i j y d = refl
  set_other (z ∷ xs) zero zero y d = absurd (d refl)
  set_other (z ∷ xs) zero (suc j) y d = refl
  set_other (z ∷ xs) (suc i) zero y d = refl
  set_other (z ∷ xs) (suc i) (suc j) y d = set_other xs i j y (λ e. d (ap (λ (n : ℕ). suc n) e))

  pub push_first : (xs : List X) (y : X) (j : ℕ) → j < length xs → slice_get (xs ++ y ∷ []) j ≡ slice_get xs j
  push_first [] y j l = absurd (omega (arith, l))
  push_first (x ∷ xs) y zero l = refl
  push_first (x ∷ xs) y (suc j) l = push_first xs y j (omega (arith, l))

  pub push_last : (xs : List X) (y : X) → slice_get (xs ++ y ∷ []) (length xs) ≡ Some y
  push_last [] y = refl
  push_last (x ∷ xs) y = push_last xs y

  pub place_less : (xs : List X) (i : ℕ) (x : X) → slice_get xs i ≡ Some x → i < length xs
  place_less [] i x e = absurd (none-some x e)
  place_less (y ∷ xs) zero x e = omega arith
  place_less (y ∷ xs) (suc i) x e = let l = place_less xs i x e in omega (arith, l)

  pub push_long : (xs : List X) (y : X) → length (xs ++ y ∷ []) ≡ suc (length xs)
  push_long [] y = refl
  push_long (x ∷ xs) y = ap (λ (n : ℕ). suc n) (push_long xs y)
