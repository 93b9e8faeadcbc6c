-- Classes, one number after another.
use Rattle.std.proofs.Common.{◌≡◌, ◌↔◌, ◌⊎◌, inl, inr, ℕ, ◌<◌, ◌+◌, List, [], ◌∷◌, ◌++◌, length, slice_index, refl, sym}
use Rattle.std.proofs.Common.{ap, subst, ◌∙◌, arith}
use Rattle.std.proofs.lemmas.Bool.{cases_order}
use Rattle.std.proofs.lemmas.List.{length-append, get_or_push, get_or_append_left}
use Rattle.ta_classes.specs.Classes.{IsEquivalence, AreClasses, IsOneClass}

-- a number below k + 1 is below k, or k
below_or : (x k : ℕ) → x < k + 1 → (x < k) ⊎ (x ≡ k)
below_or x k l = elim (cases_order x k) [
  | inl e ↦ inr e
  | inr o ↦ elim o [ inl j ↦ inl j | inr j ↦ absurd (omega (arith, j, l)) ]
]

old_entry : (xs : List ℕ) (y x : ℕ) → x < length xs → slice_index (xs ++ y ∷ []) x ≡ slice_index xs x
old_entry xs y x l = get_or_append_left xs (y ∷ []) 0 x l

new_entry : (xs : List ℕ) (y k : ℕ) → length xs ≡ k → slice_index (xs ++ y ∷ []) k ≡ y
new_entry xs y k e = get_or_push xs y 0 k e

module _ (R : ℕ → ℕ → Type 0) where
  -- at first there is no class
  pub no_classes : AreClasses R 0 [] []
  no_classes = record {
    long = refl;
    few = omega arith;
    fits = λ p l. absurd (omega (arith, l));
    low = λ v l. absurd (omega (arith, l));
    first = λ p l. absurd (omega (arith, l));
    apart = λ v w l k. absurd (omega (arith, l));
    fewer = λ p q l k. absurd (omega (arith, k));
  }

  module _ (k : ℕ) (numbers firsts : List ℕ) (h : AreClasses R k numbers firsts) where
    at : (p : ℕ) → p < k → p < length numbers
    at p l = let e = h.long in omega (arith, e, l)

    -- the next number is in a class that is there
    pub class_known : (v : ℕ) → v < length firsts → R (slice_index firsts v) k
        → AreClasses R (k + 1) (numbers ++ v ∷ []) firsts
    class_known v l m =
        let more = numbers ++ v ∷ [] in
        let old : (p : ℕ) → p < k → slice_index more p ≡ slice_index numbers p =
        λ p j. old_entry numbers v p (at p j) in
        let last : slice_index more k ≡ v = new_entry numbers v k h.long in
        record {
          long = (let e = length-append numbers (v ∷ []) in let n = h.long in omega (arith, e, n));
          few = (let f = h.few in omega (arith, f));
          fits = λ p j. elim (below_or p k j) [
            | inl i ↦ subst (λ (n : ℕ). n < length firsts) (sym (old p i)) (h.fits p i)
            | inr e ↦ subst (λ (n : ℕ). n < length firsts) (sym (ap (λ (y : ℕ). slice_index more y) e ∙ last)) l
          ];
          low = λ w j. (let b = h.low w j in omega (arith, b));
          first = λ p j. elim (below_or p k j) [
            | inl i ↦ subst (λ (n : ℕ). R (slice_index firsts n) p) (sym (old p i)) (h.first p i)
            | inr e ↦ subst (λ (y : ℕ). R (slice_index firsts (slice_index more y)) y) (sym e)
                (subst (λ (n : ℕ). R (slice_index firsts n) k) (sym last) m)
          ];
          apart = h.apart;
          fewer = λ p q i j g. (let f = h.few in omega (arith, f));
        }

    -- the next number begins a class
    pub class_begun : (n : ℕ) → IsEquivalence n R → k < n
        → ((v : ℕ) → v < length firsts → R (slice_index firsts v) k → ⊥)
        → AreClasses R (k + 1) (numbers ++ length firsts ∷ []) (firsts ++ k ∷ [])
    class_begun n equal within none =
        let more = numbers ++ length firsts ∷ [] in
        let ahead = firsts ++ k ∷ [] in
        let long : length ahead ≡ length firsts + 1 = length-append firsts (k ∷ []) in
        let old : (p : ℕ) → p < k → slice_index more p ≡ slice_index numbers p =
        λ p j. old_entry numbers (length firsts) p (at p j) in
        let last : slice_index more k ≡ length firsts = new_entry numbers (length firsts) k h.long in
        let early : (v : ℕ) → v < length firsts → slice_index ahead v ≡ slice_index firsts v =
        λ v j. old_entry firsts k v j in
        let late : slice_index ahead (length firsts) ≡ k = new_entry firsts k (length firsts) refl in
        record {
          long = (let e = length-append numbers (length firsts ∷ []) in let n = h.long in omega (arith, e, n));
          few = (let f = h.few in omega (arith, f, long));
          fits = λ p j. elim (below_or p k j) [
            | inl i ↦ (let e = old p i in let f = h.fits p i in omega (arith, e, f, long))
            | inr e ↦ (let d : slice_index more p ≡ length firsts = ap (λ (y : ℕ). slice_index more y) e ∙ last in
                omega (arith, d, long))
          ];
          low = λ v j. elim (below_or v (length firsts) (rw (← long) j)) [
            | inl i ↦ (let e = early v i in let b = h.low v i in omega (arith, e, b))
            | inr e ↦ (let d : slice_index ahead v ≡ k = ap (λ (y : ℕ). slice_index ahead y) e ∙ late in
                omega (arith, d))
          ];
          first = λ p j. elim (below_or p k j) [
            | inl i ↦ subst (λ (n : ℕ). R n p)
                (sym (ap (λ (y : ℕ). slice_index ahead y) (old p i) ∙ early (slice_index numbers p) (h.fits p i)))
                (h.first p i)
            | inr e ↦ subst (λ (y : ℕ). R (slice_index ahead (slice_index more y)) y) (sym e)
                (subst (λ (n : ℕ). R n k) (sym (ap (λ (y : ℕ). slice_index ahead y) last ∙ late)) (equal.same k within))
          ];
          apart = λ v w i j r. elim (below_or v (length firsts) (rw (← long) i)) [
            | inl a ↦ elim (below_or w (length firsts) (rw (← long) j)) [
              | inl b ↦ h.apart v w a b
                  (subst (λ (n : ℕ). R n (slice_index firsts w)) (early v a)
                  (subst (λ (n : ℕ). R (slice_index ahead v) n) (early w b) r))
              | inr e ↦ absurd
                  (none v a
                  (subst (λ (n : ℕ). R n k) (early v a)
                  (subst (λ (n : ℕ). R (slice_index ahead v) n) (ap (λ (y : ℕ). slice_index ahead y) e ∙ late) r)))
            ]
            | inr d ↦ elim (below_or w (length firsts) (rw (← long) j)) [
              | inl b ↦ absurd
                  (none w b
                  (equal.turned k (slice_index firsts w)
                  (subst (λ (n : ℕ). R n (slice_index firsts w)) (ap (λ (y : ℕ). slice_index ahead y) d ∙ late)
                  (subst (λ (n : ℕ). R (slice_index ahead v) n) (early w b) r))))
              | inr e ↦ d ∙ sym e
            ]
          ];
          fewer = λ p q i j r. elim (below_or q k j) [
            | inl l ↦ (let f = h.fewer p q i l r in omega (arith, f, long))
            | inr e ↦ (let low : p < k = omega (arith, i, e) in
                absurd
                (none (slice_index numbers p) (h.fits p low)
                (equal.through _ p k (h.first p low) (subst (λ (y : ℕ). R p y) e r))))
          ];
        }

    -- two numbers are in one class exactly where they are related
    pub one_class : (n : ℕ) → IsEquivalence n R → (p q : ℕ) → p < k → q < k → IsOneClass numbers p q ↔ R p q
    one_class n equal p q i j = (
      (λ e. equal.through p (slice_index firsts (slice_index numbers p)) q (equal.turned _ p (h.first p i))
          (subst (λ (n : ℕ). R (slice_index firsts n) q) (sym e) (h.first q j))),
      (λ r. h.apart (slice_index numbers p) (slice_index numbers q) (h.fits p i) (h.fits q j)
          (equal.through _ q _ (equal.through _ p q (h.first p i) r) (equal.turned _ q (h.first q j)))),
    )

    -- the first number of a class is in it
    pub first_in : (v : ℕ) → v < length firsts → slice_index numbers (slice_index firsts v) ≡ v
    first_in v l = h.apart (slice_index numbers (slice_index firsts v)) v (h.fits (slice_index firsts v) (h.low v l)) l
        (h.first (slice_index firsts v) (h.low v l))
