-- The first item of two lists.
use Rattle.std.proofs.Common.{ℕ, List, [], ◌∷◌, ◌++◌, ◌≡◌, refl, sym, ap, Some, None}
use Rattle.std.proofs.lemmas.Option.{none-some, same_Some}
use Rattle.fa_written.specs.inner.Reached.{first_of}

pub first_here : (xs ys : List ℕ) (x : ℕ) → first_of xs ≡ Some x → first_of (xs ++ ys) ≡ Some x
first_here [] ys x e = absurd (none-some x e)
first_here (y ∷ xs) ys x e = e

pub first_later : (xs ys : List ℕ) → first_of xs ≡ None → first_of (xs ++ ys) ≡ first_of ys
first_later [] ys e = refl
first_later (y ∷ xs) ys e = absurd (none-some y (sym e))

pub none_first : (xs : List ℕ) → first_of xs ≡ None → xs ≡ []
none_first [] e = refl
none_first (x ∷ xs) e = absurd (none-some x (sym e))

pub some_first : (xs : List ℕ) (x : ℕ) → first_of xs ≡ Some x → (others : List ℕ) × (xs ≡ x ∷ others)
some_first [] x e = absurd (none-some x e)
some_first (y ∷ xs) x e = (xs, ap (λ z. z ∷ xs) (same_Some y x e))
