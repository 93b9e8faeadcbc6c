-- Different items of a list are no more than the list has, and lists of different items behind one another.
use Rattle.std.proofs.Common.{◌≡◌, ◌⊎◌, inl, inr, suc, ◌≤◌, List, [], ◌∷◌, ◌++◌, map, length, refl, sym, ap, subst}
use Rattle.std.proofs.Common.{◌∙◌, arith}
use Rattle.fore_base.specs.Lists.{IsIn, IsDistinct}
use Rattle.fore_base.proofs.ListLemmas.{in_append, in_mapped}

module _ {X : Type 0} where
  -- a list without one of its items
  without : (x : X) (ys : List X) → IsIn x ys → (zs : List X) × (length ys ≡ suc (length zs))
      × ((y : X) → IsIn y ys → (y ≡ x) ⊎ IsIn y zs)
  without x [] i = absurd i
  without x (y ∷ ys) (inl e) = (ys, refl, λ z j. elim j [ inl q ↦ inl (q ∙ sym e) | inr k ↦ inr k ])
  without x (y ∷ ys) (inr i) =
      let r = without x ys i in (
        y ∷ r.0,
        ap (λ n. suc n) r.1,
        (λ z j. elim j [
          | inl q ↦ inr (inl q)
          | inr k ↦ elim (r.2 z k) [ inl q ↦ inl q | inr l ↦ inr (inr l) ]
        ]),
      )

  -- different items, each of the list, are no more than it has
  pub no_more : (xs ys : List X) → IsDistinct xs → ((x : X) → IsIn x xs → IsIn x ys) → length xs ≤ length ys
  no_more [] ys d h = omega arith
  no_more (x ∷ xs) ys d h =
      let r = without x ys (h x (inl refl)) in
      let k = no_more xs r.0 d.1 (λ y i. elim (r.2 y (h y (inr i))) [
        | inl q ↦ absurd (d.0 (subst (λ (z : X). IsIn z xs) q i))
        | inr l ↦ l
      ]) in
      let e = r.1 in
      omega (arith, k, e)

  -- two lists of different items that share none
  pub distinct_both : (xs ys : List X) → IsDistinct xs → IsDistinct ys → ((x : X) → IsIn x xs → IsIn x ys → ⊥)
      → IsDistinct (xs ++ ys)
  distinct_both [] ys d e h = e
  distinct_both (x ∷ xs) ys d e h = (
    (λ i. elim (in_append x xs ys i) [ inl j ↦ d.0 j | inr j ↦ h x (inl refl) j ]),
    distinct_both xs ys d.1 e (λ y i j. h y (inr i) j),
  )

-- items that are different stay so under a map that is one to one
pub distinct_mapped : {X Y : Type 0} (f : X → Y) → ((x y : X) → f x ≡ f y → x ≡ y) → (xs : List X) → IsDistinct xs
    → IsDistinct (map f xs)
distinct_mapped f one [] d = tt
distinct_mapped {X} f one (x ∷ xs) d = (
  (λ i. (let k = in_mapped f (f x) xs i in d.0 (subst (λ (z : X). IsIn z xs) (sym (one x k.0 k.2)) k.1))),
  distinct_mapped f one xs d.1,
)
