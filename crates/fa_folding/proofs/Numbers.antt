-- The kept roots and their numbers.
use Rattle.std.proofs.Common.{◌≡◌, ◌⊎◌, inl, inr, ℕ, zero, suc, ◌<◌, ◌≤◌, ◌+◌, ◌-◌, Bool, true, false, true≢false}
use Rattle.std.proofs.Common.{nat_eq, nat_lt, filter, ◌≢◌, if◌then◌else◌, cond, ◌||◌, length, List, [], ◌∷◌, ◌++◌, map}
use Rattle.std.proofs.Common.{refl, sym, ap, subst, ◌∙◌, arith, slice_get}
use Rattle.std.proofs.Common.{Some}
use Rattle.std.proofs.lemmas.Option.{none-some, same_Some}
use Rattle.std.proofs.lemmas.Bool.{eqb-true, eq-eqb, ltb-true}
use Rattle.fore_base.specs.Lists.{IsIn, IsDistinct}
use Rattle.fore_base.specs.declared.store.Value.{Value}
use Rattle.fa_core.specs.Dressed.{nth_value}
use Rattle.fa_core.specs.Folding.{number_without}
use Rattle.fa_core.specs.Rearranged.{Rearranged, often, empty, keep, chain}
use Rattle.fa_core.specs.Ways.{has}
use Rattle.fa_core.proofs.Rearranging.{back, before, middle}
use Rattle.fa_facts.proofs.Alike.{alike}
use Rattle.fa_merge.specs.Reordered.{counted}
use Rattle.fa_folding.specs.Made.{kept_of}
use Rattle.fa_back.proofs.RootMarks.{has_in, in_has}
use Rattle.fa_folding.proofs.Orders.{below, below_next, one_if, not_in}

abbrev pub gone_of : List ℕ → List ℕ → List ℕ
gone_of inner [] = []
gone_of inner (r ∷ rs) = if has r inner then r ∷ gone_of inner rs else gone_of inner rs

pub gone_and_kept : (inner rs : List ℕ) → Rearranged rs (gone_of inner rs ++ kept_of inner rs)
gone_and_kept inner [] = empty
gone_and_kept inner (r ∷ rs) = here (has r inner) (gone_and_kept inner rs)
  where
    here : (b : Bool) → Rearranged rs (gone_of inner rs ++ kept_of inner rs)
        → Rearranged (r ∷ rs) (cond b (r ∷ gone_of inner rs) (gone_of inner rs) ++ cond b (kept_of inner rs)
        (r ∷ kept_of inner rs))
    here true g = keep r g
    here false g = chain (keep r g) (back (middle (gone_of inner rs) r (kept_of inner rs)))

pub in_gone : (inner rs : List ℕ) (k : ℕ) → IsIn k (gone_of inner rs) → IsIn k inner × IsIn k rs
in_gone inner [] k i = absurd i
in_gone inner (r ∷ rs) k i = here (has r inner) refl i (in_gone inner rs k)
  where
    here : (b : Bool) → has r inner ≡ b → IsIn k (cond b (r ∷ gone_of inner rs) (gone_of inner rs))
        → (IsIn k (gone_of inner rs) → IsIn k inner × IsIn k rs) → IsIn k inner × IsIn k (r ∷ rs)
    here true e (inl q) f = (subst (λ (z : ℕ). IsIn z inner) (sym q) (has_in r inner e), inl q)
    here true e (inr j) f = let w = f j in (w.0, inr w.1)
    here false e j f = let w = f j in (w.0, inr w.1)

pub gone_in : (inner rs : List ℕ) (k : ℕ) → IsIn k inner → IsIn k rs → IsIn k (gone_of inner rs)
gone_in inner [] k i j = absurd j
gone_in inner (r ∷ rs) k i (inl q) = rw (in_has r inner (subst (λ (z : ℕ). IsIn z inner) q i)) (inl q)
gone_in inner (r ∷ rs) k i (inr j) = here (has r inner) (gone_in inner rs k i j)
  where
    here : (b : Bool) → IsIn k (gone_of inner rs) → IsIn k (cond b (r ∷ gone_of inner rs) (gone_of inner rs))
    here true g = inr g
    here false g = g

pub kept_in : (inner rs : List ℕ) (k : ℕ) → (IsIn k inner → ⊥) → IsIn k rs → IsIn k (kept_of inner rs)
kept_in inner [] k n j = absurd j
kept_in inner (r ∷ rs) k n (inl q) = rw (not_in r inner (λ i. n (subst (λ (z : ℕ). IsIn z inner) (sym q) i))) (inl q)
kept_in inner (r ∷ rs) k n (inr j) = here (has r inner) (kept_in inner rs k n j)
  where
    here : (b : Bool) → IsIn k (kept_of inner rs) → IsIn k (cond b (kept_of inner rs) (r ∷ kept_of inner rs))
    here true g = g
    here false g = inr g

pub in_kept : (inner rs : List ℕ) (k : ℕ) → IsIn k (kept_of inner rs) → (IsIn k inner → ⊥) × IsIn k rs
in_kept inner [] k i = absurd i
in_kept inner (r ∷ rs) k i = here (has r inner) refl i (in_kept inner rs k)
  where
    here : (b : Bool) → has r inner ≡ b → IsIn k (cond b (kept_of inner rs) (r ∷ kept_of inner rs))
        → (IsIn k (kept_of inner rs) → (IsIn k inner → ⊥) × IsIn k rs) → (IsIn k inner → ⊥) × IsIn k (r ∷ rs)
    here true e j f = let w = f j in (w.0, inr w.1)
    here false e (inl q) f = ((λ j. true≢false (sym (in_has r inner (subst (λ (z : ℕ). IsIn z inner) q j)) ∙ e)), inl q)
    here false e (inr j) f = let w = f j in (w.0, inr w.1)

kept_differ : (inner rs : List ℕ) → IsDistinct rs → IsDistinct (kept_of inner rs)
kept_differ inner [] d = tt
kept_differ inner (r ∷ rs) (g, d) = here (has r inner) (kept_differ inner rs d)
  where
    here : (b : Bool) → IsDistinct (kept_of inner rs) → IsDistinct (cond b (kept_of inner rs) (r ∷ kept_of inner rs))
    here true f = f
    here false f = ((λ i. g (in_kept inner rs r i).1), f)

gone_differ : (inner rs : List ℕ) → IsDistinct rs → IsDistinct (gone_of inner rs)
gone_differ inner [] d = tt
gone_differ inner (r ∷ rs) (g, d) = here (has r inner) (gone_differ inner rs d)
  where
    here : (b : Bool) → IsDistinct (gone_of inner rs) → IsDistinct (cond b (r ∷ gone_of inner rs) (gone_of inner rs))
    here true f = ((λ i. g (in_gone inner rs r i).1), f)
    here false f = f

pub counted_above : (k n j : ℕ) → IsIn j (counted k n) → (k ≤ j) × (j < k + n)
counted_above k zero j i = absurd i
counted_above k (suc n) j (inl e) = (omega (arith, e), omega (arith, e))
counted_above k (suc n) j (inr i) = let w = counted_above (suc k) n j i in let a = w.0 in let b = w.1 in
    (omega (arith, a), omega (arith, b))

same_or : (j k : ℕ) → (j ≡ k) ⊎ (j ≢ k)
same_or j k = here (nat_eq j k) refl
  where
    here : (b : Bool) → nat_eq j k ≡ b → (j ≡ k) ⊎ (j ≢ k)
    here true e = inl (eqb-true j k e)
    here false e = inr (λ q. true≢false (sym (eq-eqb j k q) ∙ e))

pub in_counted : (k n j : ℕ) → k ≤ j → j < k + n → IsIn j (counted k n)
in_counted k zero j a b = absurd (omega (arith, a, b))
in_counted k (suc n) j a b = elim (same_or j k) [
  | inl e ↦ inl e
  | inr f ↦ inr
      (in_counted (suc k) n j (omega (arith, a, f)) (omega (arith, b)))
]

pub counted_differ : (k n : ℕ) → IsDistinct (counted k n)
counted_differ k zero = tt
counted_differ k (suc n) = (
  (λ i. let w = counted_above (suc k) n k i in let a = w.0 in
      omega (arith, a)),
  counted_differ (suc k) n,
)

-- Lists with the same numbers, each once.

often_once : (n : ℕ) (xs : List ℕ) → IsDistinct xs → often n xs ≡ one_if (has n xs)
often_once n [] d = refl
often_once n (x ∷ xs) d = here (nat_eq n x) refl (often_once n xs d.1)
  where
    here : (b : Bool) → nat_eq n x ≡ b → often n xs ≡ one_if (has n xs)
        → cond b (often n xs + 1) (often n xs) ≡ one_if (b || has n xs)
    here true e r =
        let k : has n xs ≡ false =
        not_in n xs (λ i. d.0 (subst (λ (z : ℕ). IsIn z xs) (eqb-true n x e) i)) in
        let z : often n xs ≡ 0 = r ∙ ap one_if k in
        omega (arith, z)
    here false e r = r

same_had : (n : ℕ) (xs ys : List ℕ) → (IsIn n xs → IsIn n ys) → (IsIn n ys → IsIn n xs) → has n xs ≡ has n ys
same_had n xs ys f g = here (has n xs) refl
  where
    here : (b : Bool) → has n xs ≡ b → b ≡ has n ys
    here true e = sym (in_has n ys (f (has_in n xs e)))
    here false e = sym (not_in n ys (λ i. true≢false (sym (in_has n xs (g i)) ∙ e)))

same_items : (xs ys : List ℕ) → IsDistinct xs → IsDistinct ys → ((k : ℕ) → IsIn k xs → IsIn k ys)
    → ((k : ℕ) → IsIn k ys → IsIn k xs) → Rearranged xs ys
same_items xs ys a b f g = alike xs ys
    (λ n. often_once n xs a ∙ ap one_if (same_had n xs ys (f n) (g n)) ∙ sym (often_once n ys b))

module _ (inner : List ℕ) (n : ℕ) (differ : IsDistinct inner) (low : (k : ℕ) → IsIn k inner → k < n) where
  abbrev pub kept : List ℕ
  kept = kept_of inner (counted 0 n)

  pub all_roots : Rearranged (counted 0 n) (inner ++ kept)
  all_roots = chain (gone_and_kept inner (counted 0 n))
      (before kept (same_items (gone_of inner (counted 0 n)) inner
      (gone_differ inner (counted 0 n) (counted_differ 0 n)) differ (λ k i. (in_gone inner (counted 0 n) k i).0)
      (λ k i. gone_in inner (counted 0 n) k i (in_counted 0 n k (omega arith) (let l = low k i in omega (arith, l))))))

  pub kept_once : IsDistinct kept
  kept_once = kept_differ inner (counted 0 n) (counted_differ 0 n)

  pub is_kept : (k : ℕ) → k < n → (IsIn k inner → ⊥) → IsIn k kept
  is_kept k l f = kept_in inner (counted 0 n) k f (in_counted 0 n k (omega arith) (omega (arith, l)))

-- no more roots are taken away below r than there are
pub below_low : (inner : List ℕ) → IsDistinct inner → (r : ℕ) → below inner r ≤ r
below_low inner d zero = here inner
  where
    here : (xs : List ℕ) → below xs 0 ≤ 0
    here [] = omega arith
    here (x ∷ xs) = here_not (nat_lt x 0) refl (here xs)
      where
        here_not : (b : Bool) → nat_lt x 0 ≡ b → below xs 0 ≤ 0
            → length (cond b (x ∷ filter (λ k. nat_lt k 0) xs) (filter (λ k. nat_lt k 0) xs)) ≤ 0
        here_not true e l = let z = ltb-true x 0 e in absurd (omega (arith, z))
        here_not false e l = l
below_low inner d (suc r) = let n = below_next inner r d in let l = below_low inner d r in
    here (has r inner) (below_next inner r d) l
  where
    here : (b : Bool) → below inner (suc r) ≡ below inner r + one_if b → below inner r ≤ r → below inner (suc r) ≤ suc r
    here true e l = let z : below inner (suc r) ≡ below inner r + 1 = e in omega (arith, z, l)
    here false e l = let z : below inner (suc r) ≡ below inner r + 0 = e in omega (arith, z, l)

-- the new number of a kept root is its place among the kept
module _ (h : ℕ → Value) (inner : List ℕ) (differ : IsDistinct inner) where
  abbrev Found : ℕ → ℕ → ℕ → Type 0
  Found s m k = (j : ℕ) × (j + number_without inner s ≡ number_without inner k)
      × (nth_value (map h (kept_of inner (counted s m))) j ≡ h k)

  found : (m s k : ℕ) → s ≤ k → k < s + m → has k inner ≡ false → Found s m k
  found zero s k a b n = absurd (omega (arith, a, b))
  found (suc m) s k a b n = elim (same_or s k) [
    | inl e ↦ (
      0,
      (let z : 0 + number_without inner s ≡ number_without inner s = omega arith in
          z ∙ ap (number_without inner) e),
      rw (ap (λ (z : ℕ). has z inner) e ∙ n) (ap h e),
    )
    | inr f ↦ next (has s inner) refl (below_next inner s differ) (below_low inner differ s)
        (below_low inner differ (suc s)) (found m (suc s) k (omega (arith, a, f)) (omega (arith, b)) n)
  ]
    where
      next : (b : Bool) → has s inner ≡ b → below inner (suc s) ≡ below inner s + one_if (has s inner)
          → below inner s ≤ s → below inner (suc s) ≤ suc s → Found (suc s) m k
          → (j : ℕ) × (j + number_without inner s ≡ number_without inner k)
          × (nth_value (map h (cond (has s inner) (kept_of inner (counted (suc s) m))
          (s ∷ kept_of inner (counted (suc s) m)))) j ≡ h k)
      next true e q l r (j, w, v) =
          let z : below inner (suc s) ≡ below inner s + 1 = rw e at q in
          (j, omega (arith, z, l, r, w), rw e v)
      next false e q l r (j, w, v) =
          let z : below inner (suc s) ≡ below inner s + 0 = rw e at q in
          (suc j, omega (arith, z, l, r, w), rw e v)

  pub new_number : (n k : ℕ) → k < n → (IsIn k inner → ⊥)
      → nth_value (map h (kept_of inner (counted 0 n))) (number_without inner k) ≡ h k
  new_number n k l f =
      let w = found n 0 k (omega arith) (omega (arith, l)) (not_in k inner f) in
      let z : w.0 ≡ number_without inner k = let q = w.1 in let o : number_without inner 0 ≡ 0 = omega arith in
      omega (arith, q, o) in
      subst (λ (j : ℕ). nth_value (map h (kept_of inner (counted 0 n))) j ≡ h k) z w.2

-- the number of the j-th kept root is j
module _ (inner : List ℕ) (differ : IsDistinct inner) where
  number_from : (m s j r : ℕ) → slice_get (kept_of inner (counted s m)) j ≡ Some r
      → j + number_without inner s ≡ number_without inner r
  number_from zero s j r h = absurd (none-some r h)
  number_from (suc m) s j r h =
      next (has s inner) refl (below_next inner s differ) (below_low inner differ s)
      (below_low inner differ (suc s)) j h
      (number_from m (suc s))
    where
      next : (b : Bool) → has s inner ≡ b → below inner (suc s) ≡ below inner s + one_if (has s inner)
          → below inner s ≤ s → below inner (suc s) ≤ suc s → (j : ℕ)
          → slice_get (cond b (kept_of inner (counted (suc s) m)) (s ∷ kept_of inner (counted (suc s) m))) j ≡ Some r
          → ((j r : ℕ) → slice_get (kept_of inner (counted (suc s) m)) j ≡ Some r
          → j + number_without inner (suc s) ≡ number_without inner r)
          → j + number_without inner s ≡ number_without inner r
      next true e q l u j h rec =
          let z : below inner (suc s) ≡ below inner s + 1 = rw e at q in
          let w = rec j r h in
          omega (arith, z, l, u, w)
      next false e q l u zero h rec =
          let k : s ≡ r = same_Some s r h in
          let w : 0 + number_without inner s ≡ number_without inner s = omega arith in
          w ∙ ap (number_without inner) k
      next false e q l u (suc j) h rec =
          let z : below inner (suc s) ≡ below inner s + 0 = rw e at q in
          let w = rec j r h in
          omega (arith, z, l, u, w)

  pub kept_number : (n j r : ℕ) → slice_get (kept_of inner (counted 0 n)) j ≡ Some r → number_without inner r ≡ j
  kept_number n j r h =
      let w = number_from n 0 j r h in
      let o : number_without inner 0 ≡ 0 = omega arith in
      omega (arith, w, o)
