-- Each location is numbered once, so that of a place is in the middle of no step. Where a run comes there, the
-- temporaries hold nothing.
use Rattle.std.proofs.Common.{◌≡◌, ◌<◌, ◌≤◌, ◌⊎◌, inl, inr, ◌+◌, ℕ, zero, suc, true, List, [], ◌∷◌, ◌++◌, length, refl}
use Rattle.std.proofs.Common.{subst, arith}
use Rattle.std.specs.List.Sorted.{IsPermutation}
use Rattle.std.specs.List.{sum_by}
use Rattle.std.proofs.lemmas.List.Sorted.{sum_by-IsPermutation}
use Rattle.std.proofs.lemmas.List.Sums.{sum_by-cons, sum_by-append}
use Rattle.fore_base.specs.Lists.{IsIn}
use Rattle.c_types.specs.declared.mode.MallocMode.{MallocMode}
use Rattle.c_types.specs.Program.{Program, is_typed}
use Rattle.c_types.specs.Control.{Items, Done}
use Rattle.c_types.specs.Steps.{below}
use Rattle.c_cfg.specs.Graphs.{ControlGraph}
use Rattle.c_cfg.specs.Places.{places}
use Rattle.c_cfg.specs.Lowering.{LowerOf, numbers}
use Rattle.c_cfg.specs.Temporaries.{TemporariesUnset, UnsetBetweenSteps}
use Rattle.c_cfg.proofs.Agree.Unstuck.{Middle, middle_or_unset}

-- how often a number is in a list

abbrev one_if : ℕ → ℕ → ℕ
one_if zero zero = 1
one_if zero (suc m) = 0
one_if (suc n) zero = 0
one_if (suc n) (suc m) = one_if n m

one_same : (n : ℕ) → one_if n n ≡ 1
one_same zero = refl
one_same (suc n) = one_same n

one_apart : (n m : ℕ) → n < m → one_if n m ≡ 0
one_apart n zero h = absurd (omega (arith, h))
one_apart zero (suc m) h = refl
one_apart (suc n) (suc m) h = one_apart n m (omega (arith, h))

one_above : (n m : ℕ) → m < n → one_if n m ≡ 0
one_above zero m h = absurd (omega (arith, h))
one_above (suc n) zero h = refl
one_above (suc n) (suc m) h = one_above n m (omega (arith, h))

one_most : (n m : ℕ) → one_if n m ≤ 1
one_most zero zero = omega arith
one_most zero (suc m) = omega arith
one_most (suc n) zero = omega arith
one_most (suc n) (suc m) = one_most n m

often : ℕ → List ℕ → ℕ
often k xs = sum_by (one_if k) xs

often_cons : (k x : ℕ) (xs : List ℕ) → often k (x ∷ xs) ≡ one_if k x + often k xs
unfolding often
often_cons k x xs = sum_by-cons (one_if k) x xs

often_append : (k : ℕ) (xs ys : List ℕ) → often k (xs ++ ys) ≡ often k xs + often k ys
unfolding often
often_append k xs ys = sum_by-append (one_if k) xs ys

often_none : (k : ℕ) → often k [] ≡ 0
unfolding often
often_none k = refl

often_same : (k : ℕ) (xs ys : List ℕ) → IsPermutation xs ys → often k ys ≡ often k xs
unfolding often
often_same k xs ys h = sum_by-IsPermutation (one_if k) xs ys h

often_in : (k : ℕ) (xs : List ℕ) → IsIn k xs → 1 ≤ often k xs
often_in k [] h = absurd h
often_in k (x ∷ xs) (inl e) = let one : one_if k x ≡ 1 = subst (λ z. one_if k z ≡ 1) e (one_same k) in
    omega (arith, often_cons k x xs, one)
often_in k (x ∷ xs) (inr h) = omega (arith, often_cons k x xs, often_in k xs h)

last_often : (k n : ℕ) → often k (n ∷ []) ≡ one_if k n
last_often k n = omega (arith, often_cons k n [], often_none k)

below_none : (k n : ℕ) → n ≤ k → often k (below n) ≡ 0
below_none k zero h = often_none k
below_none k (suc n) h =
    omega (
      arith,
      often_append k (below n) (n ∷ []),
      last_often k n,
      one_above k n (omega (arith, h)),
      below_none k n (omega (arith, h)),
    )

one_least : (n m k : ℕ) → one_if n m ≡ suc k → m ≤ n
one_least zero zero k e = omega arith
one_least zero (suc m) k e = absurd (omega (arith, e))
one_least (suc n) zero k e = omega arith
one_least (suc n) (suc m) k e = omega (arith, one_least n m k e)

below_once : (k n : ℕ) → often k (below n) ≤ 1
below_once k zero = omega (arith, often_none k)
below_once k (suc n) = by (one_if k n) refl (below_once k n)
  where
    by : (m : ℕ) → one_if k n ≡ m → often k (below n) ≤ 1 → often k (below (suc n)) ≤ 1
    by zero e before = omega (arith, often_append k (below n) (n ∷ []), last_often k n, e, before)
    by (suc m) e before = omega
        (arith, often_append k (below n) (n ∷ []), last_often k n, one_most k n, below_none k n (one_least k n m e))

-- The locations of places, and those in the middle of their steps

module _ (at : Items → ℕ) (mids : Items → List ℕ) where
  often_numbers : (k : ℕ) (c : Items) (cs : List Items) → often k (numbers at mids (c ∷ cs))
      ≡ one_if k (at c) + (often k (mids c) + often k (numbers at mids cs))
  often_numbers k c cs = omega
      (arith, often_cons k (at c) (mids c ++ numbers at mids cs), often_append k (mids c) (numbers at mids cs))

  at_counts : (c : Items) (cs : List Items) → IsIn c (Done ∷ cs) → 1 ≤ often (at c) (numbers at mids cs)
  at_counts c [] (inl e) =
      let one : one_if (at c) (at Done) ≡ 1 = subst (λ z. one_if (at c) (at z) ≡ 1) e (one_same (at c)) in
      omega (arith, last_often (at c) (at Done), one)
  at_counts c [] (inr h) = absurd h
  at_counts c (d ∷ ds) (inl e) = omega (arith, often_numbers (at c) d ds, at_counts c ds (inl e))
  at_counts c (d ∷ ds) (inr (inl e)) =
      let one : one_if (at c) (at d) ≡ 1 = subst (λ z. one_if (at c) (at z) ≡ 1) e (one_same (at c)) in
      omega (arith, often_numbers (at c) d ds, one)
  at_counts c (d ∷ ds) (inr (inr h)) = omega (arith, often_numbers (at c) d ds, at_counts c ds (inr h))

  mid_counts : (k : ℕ) (d : Items) (cs : List Items) → IsIn d cs → IsIn k (mids d) → 1 ≤ often k (numbers at mids cs)
  mid_counts k d [] h i = absurd h
  mid_counts k d (c ∷ cs) (inl e) i =
      omega (arith, often_numbers k c cs, often_in k (mids c) (subst (λ z. IsIn k (mids z)) e i))
  mid_counts k d (c ∷ cs) (inr h) i = omega (arith, often_numbers k c cs, mid_counts k d cs h i)

  both_count : (c d : Items) (cs : List Items) → IsIn c (Done ∷ cs) → IsIn d cs → IsIn (at c) (mids d)
      → 2 ≤ often (at c) (numbers at mids cs)
  both_count c d [] h j i = absurd j
  both_count c d (e ∷ es) (inl h) (inl j) i =
      omega (
        arith,
        often_numbers (at c) e es,
        often_in (at c) (mids e) (subst (λ z. IsIn (at c) (mids z)) j i),
        at_counts c es (inl h),
      )
  both_count c d (e ∷ es) (inl h) (inr j) i = omega (arith, often_numbers (at c) e es, both_count c d es (inl h) j i)
  both_count c d (e ∷ es) (inr (inl h)) (inl j) i =
      let one : one_if (at c) (at e) ≡ 1 = subst (λ z. one_if (at c) (at z) ≡ 1) h (one_same (at c)) in
      omega (arith, often_numbers (at c) e es, one, often_in (at c) (mids e) (subst (λ z. IsIn (at c) (mids z)) j i))
  both_count c d (e ∷ es) (inr (inl h)) (inr j) i =
      let one : one_if (at c) (at e) ≡ 1 = subst (λ z. one_if (at c) (at z) ≡ 1) h (one_same (at c)) in
      omega (arith, often_numbers (at c) e es, one, mid_counts (at c) d es j i)
  both_count c d (e ∷ es) (inr (inr h)) (inl j) i =
      omega (
        arith,
        often_numbers (at c) e es,
        often_in (at c) (mids e) (subst (λ z. IsIn (at c) (mids z)) j i),
        at_counts c es (inr h),
      )
  both_count c d (e ∷ es) (inr (inr h)) (inr j) i =
      omega (arith, often_numbers (at c) e es, both_count c d es (inr h) j i)

module _ (p : Program) (typed : is_typed p ≡ true) (mode : MallocMode) (g : ControlGraph)
    (low : LowerOf p mode g) where
  in_no_middle : (c d : Items) → IsIn c (Done ∷ places low.items Done) → IsIn d (places low.items Done)
      → IsIn (low.at c) (low.mids d) → ⊥
  in_no_middle c d h j i =
      absurd
      (omega (
        arith,
        both_count low.at low.mids c d (places low.items Done) h j i,
        often_same (low.at c) _ _ low.all_numbers,
        below_once (low.at c) g.locations,
      ))

  pub unset_between_steps : UnsetBetweenSteps p mode g low
  unset_between_steps c h s visits = by (middle_or_unset p typed mode g low (low.at c) s visits)
    where
      by : Middle p typed mode g low (low.at c) ⊎ TemporariesUnset (length p.vars) (length p.data_vars) s
          → TemporariesUnset (length p.vars) (length p.data_vars) s
      by (inl mid) = absurd (in_no_middle c mid.items h mid.is_there mid.is_mid)
      by (inr unset) = unset
