-- Numbers added to lists that have each of them once.
use Rattle.std.proofs.Common.{◌⊎◌, inl, inr, ℕ, List, [], ◌∷◌, ◌++◌, sym, subst}
use Rattle.fore_base.specs.Lists.{IsIn}
use Rattle.fore_base.proofs.ListLemmas.{in_left, in_right, in_append, distinct_push}
use Rattle.fa_part.specs.inner.Added.{Adds}

pub adds_none : (xs : List ℕ) → Adds xs [] xs
adds_none xs = record {
  once = λ d. d;
  are = λ f. ((λ i. inl i), (λ h. (elim h [ inl i ↦ i | inr x ↦ absurd x ])));
}

pub adds_more : {old new last xs ys : List ℕ} → Adds old xs new → Adds new ys last → Adds old (xs ++ ys) last
adds_more {old} {new} {last} {xs} {ys} h k = record {
  once = λ d. k.once (h.once d);
  are = λ f. (to f, from f);
}
  where
    to : (f : ℕ) → IsIn f last → IsIn f old ⊎ IsIn f (xs ++ ys)
    to f i = elim ((k.are f).0 i) [
      | inl j ↦ elim ((h.are f).0 j) [
        | inl o ↦ inl o
        | inr x ↦ inr (in_left f xs ys x)
      ]
      | inr y ↦ inr (in_right f xs ys y)
    ]

    from : (f : ℕ) → IsIn f old ⊎ IsIn f (xs ++ ys) → IsIn f last
    from f (inl o) = (k.are f).1 (inl ((h.are f).1 (inl o)))
    from f (inr j) = elim (in_append f xs ys j) [
      | inl x ↦ (k.are f).1 (inl ((h.are f).1 (inr x)))
      | inr y ↦ (k.are f).1 (inr y)
    ]

-- one that is there
pub adds_old : (xs : List ℕ) (x : ℕ) → IsIn x xs → Adds xs (x ∷ []) xs
adds_old xs x i = record { once = λ d. d; are = λ f. ((λ j. inl j), from f) }
  where
    from : (f : ℕ) → IsIn f xs ⊎ IsIn f (x ∷ []) → IsIn f xs
    from f (inl j) = j
    from f (inr (inl e)) = subst (λ (z : ℕ). IsIn z xs) (sym e) i
    from f (inr (inr n)) = absurd n

-- one that is not
pub adds_new : (xs : List ℕ) (x : ℕ) → (IsIn x xs → ⊥) → Adds xs (x ∷ []) (xs ++ x ∷ [])
adds_new xs x n = record {
  once = λ d. distinct_push xs x d n;
  are = λ f. ((λ i. in_append f xs (x ∷ []) i), from f);
}
  where
    from : (f : ℕ) → IsIn f xs ⊎ IsIn f (x ∷ []) → IsIn f (xs ++ x ∷ [])
    from f (inl j) = in_left f xs (x ∷ []) j
    from f (inr j) = in_right f xs (x ∷ []) j
