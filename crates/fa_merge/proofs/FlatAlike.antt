-- References in the place of references: where two trees refer alike, so do they when each reference becomes a list of
-- others.
use Rattle.std.proofs.Common.{◌≡◌, ◌⊎◌, inl, inr, ℕ, zero, suc, ◌+◌, Bool, true, false, true≢false, if◌then◌else◌}
use Rattle.std.proofs.Common.{nat_eq, List, [], ◌∷◌, ◌++◌, flat_map, refl, sym, ap, ap₂, subst, ◌∙◌, arith}
use Rattle.std.proofs.lemmas.Bool.{eqb-true, eq-eqb}
use Rattle.fore_base.specs.Lists.{IsIn, IsDistinct}
use Rattle.fore_base.proofs.ListLemmas.{in_left, in_right, in_append}
use Rattle.fa_core.specs.Rearranged.{often}
use Rattle.fa_core.specs.References.{AreAlike, to_two}
use Rattle.fa_core.specs.Ways.{has, once, once_from}
use Rattle.fa_core.proofs.Alike.{both_to_two}
use Rattle.fa_core.proofs.Counts.{often_both}
use Rattle.fa_core.proofs.Numbers.{once_split, once_same, bool_same}
use Rattle.fa_back.proofs.RootMarks.{has_in, in_has, in_once}

-- a times b
abbrev times : ℕ → ℕ → ℕ
times zero b = 0
times (suc a) b = b + times a b

times_none : (a : ℕ) → times a 0 ≡ 0
times_none zero = refl
times_none (suc a) = let e = times_none a in omega (arith, e)

two_times : (a b : ℕ) → to_two (times a b) ≡ to_two (times (to_two a) b)
two_times zero b = refl
two_times (suc zero) b = refl
two_times (suc (suc a)) zero = ap to_two (times_none (suc (suc a)) ∙ sym (times_none 2))
two_times (suc (suc a)) (suc b) =
    let e : suc b + (suc b + times a (suc b)) ≡ suc (suc (b + b + times a (suc b))) = omega arith in
    let g : suc b + (suc b + 0) ≡ suc (suc (b + b)) = omega arith in
    ap to_two e ∙ sym (ap to_two g)

module _ (g : ℕ → List ℕ) where
  abbrev pub flat : List ℕ → List ℕ
  flat xs = flat_map g xs

  -- The order of first visit: what came in the place of a root seen before is not new.

  none_new : (s zs : List ℕ) → ((k : ℕ) → IsIn k zs → IsIn k s) → once_from s zs ≡ []
  none_new s [] f = refl
  none_new s (z ∷ zs) f = rw (in_has z s (f z (inl refl))) (none_new s zs (λ k i. f k (inr i)))

  once_flat : (s t xs : List ℕ) → ((j k : ℕ) → IsIn j t → IsIn k (g j) → IsIn k s) → once_from s (flat xs)
      ≡ once_from s (flat (once_from t xs))
  once_flat s t [] h = refl
  once_flat s t (x ∷ xs) h =
      here (has x t) refl (once_flat s t xs h) (once_flat (s ++ once_from s (g x)) (x ∷ t) xs more)
    where
      covered : (k : ℕ) → IsIn k (g x) → IsIn k (s ++ once_from s (g x))
      covered k i = elim (in_seen s (g x) k i)
          [ inl j ↦ in_left k s (once_from s (g x)) j | inr j ↦ in_right k s (once_from s (g x)) j ]
        where
          in_seen : (s zs : List ℕ) (k : ℕ) → IsIn k zs → IsIn k s ⊎ IsIn k (once_from s zs)
          in_seen s [] k i = absurd i
          in_seen s (z ∷ zs) k i = one (has z s) refl i (in_seen s zs k) (in_seen (z ∷ s) zs k)
            where
              one : (b : Bool) → has z s ≡ b → IsIn k (z ∷ zs) → (IsIn k zs → IsIn k s ⊎ IsIn k (once_from s zs))
                  → (IsIn k zs → IsIn k (z ∷ s) ⊎ IsIn k (once_from (z ∷ s) zs)) → IsIn k s
                  ⊎ IsIn k (if b then once_from s zs else z ∷ once_from (z ∷ s) zs)
              one true e (inl q) f w = inl (subst (λ (n : ℕ). IsIn n s) (sym q) (has_in z s e))
              one true e (inr i) f w = f i
              one false e (inl q) f w = inr (inl q)
              one false e (inr i) f w =
                  elim (w i) [ inl v ↦ elim v [ inl q ↦ inr (inl q) | inr v ↦ inl v ] | inr v ↦ inr (inr v) ]

      more : (j k : ℕ) → IsIn j (x ∷ t) → IsIn k (g j) → IsIn k (s ++ once_from s (g x))
      more j k (inl e) l = covered k (subst (λ (z : ℕ). IsIn k (g z)) e l)
      more j k (inr i) l = in_left k s (once_from s (g x)) (h j k i l)

      here : (b : Bool) → has x t ≡ b → once_from s (flat xs) ≡ once_from s (flat (once_from t xs))
          → once_from (s ++ once_from s (g x)) (flat xs)
          ≡ once_from (s ++ once_from s (g x)) (flat (once_from (x ∷ t) xs))
          → once_from s (g x ++ flat xs) ≡ once_from s (flat (if b then once_from t xs else x ∷ once_from (x ∷ t) xs))
      here true e p q =
          let none : once_from s (g x) ≡ [] = none_new s (g x) (λ k i. h x k (has_in x t e) i) in
          once_split s (g x) (flat xs)
          ∙ ap₂ (λ (y z : List ℕ). y ++ z) none
          (once_same (s ++ once_from s (g x)) s (flat xs) (λ k. bool_same (has k (s ++ once_from s (g x))) (has k s)
          (λ w.
          in_has k s
          (elim (in_append k s (once_from s (g x)) (has_in k (s ++ once_from s (g x)) w))
          [ inl v ↦ v | inr v ↦ absurd (subst (λ (z : List ℕ). IsIn k z) none v) ]))
          (λ w. in_has k (s ++ once_from s (g x)) (in_left k s (once_from s (g x)) (has_in k s w)))))
          ∙ p
      here false e p q = once_split s (g x) (flat xs) ∙ ap (λ (z : List ℕ). once_from s (g x) ++ z) q
          ∙ sym (once_split s (g x) (flat (once_from (x ∷ t) xs)))

  -- The counts: a sum over the roots, each once.

  module _ (k : ℕ) where
    abbrev sum : List ℕ → List ℕ → ℕ
    sum [] xs = 0
    sum (z ∷ zs) xs = times (often z xs) (often k (g z)) + sum zs xs

    sum_none : (zs : List ℕ) → sum zs [] ≡ 0
    sum_none [] = refl
    sum_none (z ∷ zs) = let e = sum_none zs in omega (arith, e)

    -- where x is none of them it adds nothing
    sum_past : (x : ℕ) (zs xs : List ℕ) → (IsIn x zs → ⊥) → sum zs (x ∷ xs) ≡ sum zs xs
    sum_past x [] xs h = refl
    sum_past x (z ∷ zs) xs h =
        let one : often z (x ∷ xs) ≡ often z xs = apart (nat_eq z x) refl in
        ap₂ (λ (a b : ℕ). times a (often k (g z)) + b) one (sum_past x zs xs (λ i. h (inr i)))
      where
        apart : (b : Bool) → nat_eq z x ≡ b → often z (x ∷ xs) ≡ often z xs
        apart true e = absurd (h (inl (sym (eqb-true z x e))))
        apart false e = rw e refl

    -- where x is one of them it adds what came in its place
    sum_more : (x : ℕ) (zs xs : List ℕ) → IsDistinct zs → IsIn x zs → sum zs (x ∷ xs) ≡ often k (g x) + sum zs xs
    sum_more x [] xs d i = absurd i
    sum_more x (z ∷ zs) xs d (inl e) =
        let hit : nat_eq z x ≡ true = eq-eqb z x (sym e) in
        let one : often z (x ∷ xs) ≡ often z xs + 1 = rw hit refl in
        let past : sum zs (x ∷ xs) ≡ sum zs xs = sum_past x zs xs (λ i. d.0 (subst (λ (n : ℕ). IsIn n zs) e i)) in
        let same : often k (g z) ≡ often k (g x) = ap (λ (n : ℕ). often k (g n)) (sym e) in
        let step : often z xs + 1 ≡ suc (often z xs) = omega arith in
        let more : times (often z (x ∷ xs)) (often k (g z)) ≡ often k (g z) + times (often z xs) (often k (g z)) =
        ap (λ (n : ℕ). times n (often k (g z))) (one ∙ step) in
        omega (arith, past, same, more)
    sum_more x (z ∷ zs) xs d (inr i) =
        let rest : sum zs (x ∷ xs) ≡ often k (g x) + sum zs xs = sum_more x zs xs d.1 i in
        let one : often z (x ∷ xs) ≡ often z xs = apart (nat_eq z x) refl in
        let same : times (often z (x ∷ xs)) (often k (g z)) ≡ times (often z xs) (often k (g z)) =
        ap (λ (n : ℕ). times n (often k (g z))) one in
        omega (arith, rest, same)
      where
        apart : (b : Bool) → nat_eq z x ≡ b → often z (x ∷ xs) ≡ often z xs
        apart true e = absurd (d.0 (subst (λ (n : ℕ). IsIn n zs) (sym (eqb-true z x e)) i))
        apart false e = rw e refl

    often_flat : (zs xs : List ℕ) → IsDistinct zs → ((x : ℕ) → IsIn x xs → IsIn x zs) → often k (flat xs) ≡ sum zs xs
    often_flat zs [] d h = sym (sum_none zs)
    often_flat zs (x ∷ xs) d h =
        often_both k (g x) (flat xs) ∙ ap (λ (n : ℕ). often k (g x) + n) (often_flat zs xs d (λ y i. h y (inr i)))
        ∙ sym (sum_more x zs xs d (h x (inl refl)))

    sum_two : (zs xs ys : List ℕ) → ((z : ℕ) → to_two (often z xs) ≡ to_two (often z ys)) → to_two (sum zs xs)
        ≡ to_two (sum zs ys)
    sum_two [] xs ys h = refl
    sum_two (z ∷ zs) xs ys h =
        let b = often k (g z) in
        sym (both_to_two (times (often z xs) b) (sum zs xs))
        ∙ ap₂ (λ (m n : ℕ). to_two (m + n))
        (two_times (often z xs) b ∙ ap (λ (n : ℕ). to_two (times n b)) (h z) ∙ sym (two_times (often z ys) b))
        (sum_two zs xs ys h)
        ∙ both_to_two (times (often z ys) b) (sum zs ys)

  -- each root is told once
  once_distinct : (s xs : List ℕ) → IsDistinct (once_from s xs) × ((k : ℕ) → IsIn k (once_from s xs) → IsIn k s → ⊥)
  once_distinct s [] = (tt, λ k i j. i)
  once_distinct s (x ∷ xs) = here (has x s) refl (once_distinct s xs) (once_distinct (x ∷ s) xs)
    where
      here : (b : Bool) → has x s ≡ b → IsDistinct (once_from s xs) × ((k : ℕ) → IsIn k (once_from s xs) → IsIn k s → ⊥)
          → IsDistinct (once_from (x ∷ s) xs) × ((k : ℕ) → IsIn k (once_from (x ∷ s) xs) → IsIn k (x ∷ s) → ⊥)
          → IsDistinct (if b then once_from s xs else x ∷ once_from (x ∷ s) xs)
          × ((k : ℕ) → IsIn k (if b then once_from s xs else x ∷ once_from (x ∷ s) xs) → IsIn k s → ⊥)
      here true e p q = p
      here false e p q = (((λ i. q.1 x i (inl refl)), q.0), λ k i j. apart k i j)
        where
          apart : (k : ℕ) → IsIn k (x ∷ once_from (x ∷ s) xs) → IsIn k s → ⊥
          apart k (inl z) j = true≢false (sym (in_has x s (subst (λ (n : ℕ). IsIn n s) z j)) ∙ e)
          apart k (inr i) j = q.1 k i (inr j)

  pub flat_alike : (xs ys : List ℕ) → AreAlike xs ys → AreAlike (flat xs) (flat ys)
  flat_alike xs ys h = record {
    order = once_flat [] [] xs (λ j k i l. absurd i) ∙ ap (λ (z : List ℕ). once (flat z)) h.order
        ∙ sym (once_flat [] [] ys (λ j k i l. absurd i));
    times = λ k. (let zs = once xs in
        let d = (once_distinct [] xs).0 in
        ap to_two (often_flat k zs xs d (λ x i. in_once x xs i))
        ∙ sum_two k zs xs ys h.times
        ∙ sym
        (ap to_two
        (often_flat k zs ys d (λ y i. subst (λ (z : List ℕ). IsIn y z) (sym h.order) (in_once y ys i)))));
  }
