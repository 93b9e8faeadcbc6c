-- Items state by state, one item after another.
use Rattle.std.proofs.Common.{◌≡◌, ◌⊎◌, inl, inr, ℕ, zero, suc, ◌<◌, List, [], ◌∷◌, ◌++◌, length, set}
use Rattle.std.proofs.Common.{replicate, refl, sym, ap, subst, ◌∙◌, arith, length-set}
use Rattle.std.proofs.lemmas.Bool.{cases_order}
use Rattle.std.proofs.lemmas.List.{length-replicate}
use Rattle.fore_base.specs.Lists.{IsIn}
use Rattle.fore_base.proofs.ListLemmas.{in_left, in_last, in_push}
use Rattle.ta_sim.specs.inner.Matching.{group_at, AreGrouped}

-- two numbers are one or differ
same_or_not : (i j : ℕ) → (i ≡ j) ⊎ (i ≡ j → ⊥)
same_or_not i j = elim (cases_order i j) [
  | inl e ↦ inl e
  | inr o ↦ inr (λ e. elim o [ inl l ↦ omega (arith, l, e) | inr l ↦ omega (arith, l, e) ])
]

module _ {X : Type 0} where
  -- at first no state has an item
  none_at : (n q : ℕ) → group_at {X = X} (replicate n []) q ≡ []
  none_at zero q = refl
  none_at (suc n) zero = refl
  none_at (suc n) (suc q) = none_at n q

  pub none_grouped : (key : X → ℕ) (n : ℕ) → AreGrouped key [] n (replicate n [])
  none_grouped key n = record {
    long = length-replicate n [];
    only = λ q x i. absurd (subst (IsIn x) (none_at n q) i);
    each = λ x i. absurd i;
  }

  at_same : (xs : List (List X)) (i : ℕ) (ys : List X) → i < length xs → group_at (set xs i ys) i ≡ ys
  at_same [] i ys l = absurd (omega (arith, l))
  at_same (x ∷ xs) zero ys l = refl
  at_same (x ∷ xs) (suc i) ys l = at_same xs i ys (omega (arith, l))

  at_other : (xs : List (List X)) (i j : ℕ) (ys : List X) → (j ≡ i → ⊥) → group_at (set xs i ys) j ≡ group_at xs j
  at_other [] i j ys d = refl
  at_other (x ∷ xs) zero zero ys d = absurd (d refl)
  at_other (x ∷ xs) zero (suc j) ys d = refl
  at_other (x ∷ xs) (suc i) zero ys d = refl
  at_other (x ∷ xs) (suc i) (suc j) ys d = at_other xs i j ys (λ e. d (ap suc e))

-- one more item
module _ {X : Type 0} (key : X → ℕ) (items : List X) (n : ℕ) (groups : List (List X)) (x : X) (low : key x < n)
    (h : AreGrouped key items n groups) where
  abbrev own : List X
  own = group_at groups (key x) ++ x ∷ []

  abbrev new : List (List X)
  new = set groups (key x) own

  here : group_at new (key x) ≡ own
  here = at_same groups (key x) own (let e = h.long in omega (arith, e, low))

  only_new : (q : ℕ) (y : X) → (q ≡ key x) ⊎ (q ≡ key x → ⊥) → IsIn y (group_at new q) → IsIn y (items ++ x ∷ [])
      × (key y ≡ q)
  only_new q y (inl e) i =
      elim (in_push x y (group_at groups (key x)) (subst (IsIn y) (ap (group_at new) e ∙ here) i)) [
        | inl j ↦ (let w = h.only (key x) y j in (in_left y items (x ∷ []) w.0, w.1 ∙ sym e))
        | inr d ↦ (subst (λ (z : X). IsIn z (items ++ x ∷ [])) (sym d) (in_last x items), ap key d ∙ sym e)
      ]
  only_new q y (inr d) i = let w = h.only q y (subst (IsIn y) (at_other groups (key x) q own d) i) in
      (in_left y items (x ∷ []) w.0, w.1)

  old_one : (y : X) → (key y ≡ key x) ⊎ (key y ≡ key x → ⊥) → IsIn y items → IsIn y (group_at new (key y))
  old_one y (inl e) j = subst (IsIn y) (sym (ap (group_at new) e ∙ here))
      (in_left y (group_at groups (key x)) (x ∷ []) (subst (λ (q : ℕ). IsIn y (group_at groups q)) e (h.each y j)))
  old_one y (inr d) j = subst (IsIn y) (sym (at_other groups (key x) (key y) own d)) (h.each y j)

  pub grouped_push : AreGrouped key (items ++ x ∷ []) n new
  grouped_push = record {
    long = length-set groups (key x) own ∙ h.long;
    only = λ q y i. only_new q y (same_or_not q (key x)) i;
    each = λ y i. elim (in_push x y items i) [
      | inl j ↦ old_one y (same_or_not (key y) (key x)) j
      | inr e ↦ subst (λ (z : X). IsIn z (group_at new (key z))) (sym e)
          (subst (IsIn x) (sym here) (in_last x (group_at groups (key x))))
    ];
  }
