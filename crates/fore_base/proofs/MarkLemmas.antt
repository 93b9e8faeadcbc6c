-- What marks say after a mark is set, and how many there are.
use Rattle.std.proofs.Common.{◌≡◌, ◌⊎◌, inl, inr, ℕ, zero, suc, ◌<◌, ◌≤◌, ◌+◌, Bool, true, false, true≢false, List, []}
use Rattle.std.proofs.Common.{◌∷◌, ◌++◌, length, get_or, set, replicate, refl, sym, ap, subst, ◌∙◌, arith}
use Rattle.std.proofs.lemmas.Bool.{and_parts, and_from, or_cases, or_right, cases_lt}
use Rattle.std.proofs.lemmas.List.{get_or_push, get_or_append_left, length-append}
use Rattle.fore_base.specs.Lists.{IsIn, Every}
use Rattle.fore_base.specs.Marks.{IsMarked, MarksOf, all_marked, some_marked, marked_count}

-- a mark stays
pub marked_still : (marks : List Bool) (i q : ℕ) → IsMarked marks q → IsMarked (set marks i true) q
marked_still [] i q h = h
marked_still (b ∷ bs) zero zero h = refl
marked_still (b ∷ bs) zero (suc q) h = h
marked_still (b ∷ bs) (suc i) zero h = h
marked_still (b ∷ bs) (suc i) (suc q) h = marked_still bs i q h

-- a mark is the one that was set, or an older one
pub marked_new : (marks : List Bool) (i q : ℕ) → IsMarked (set marks i true) q → (q ≡ i) ⊎ IsMarked marks q
marked_new [] i q h = inr h
marked_new (b ∷ bs) zero zero h = inl refl
marked_new (b ∷ bs) zero (suc q) h = inr h
marked_new (b ∷ bs) (suc i) zero h = inr h
marked_new (b ∷ bs) (suc i) (suc q) h = elim (marked_new bs i q h) [ inl e ↦ inl (ap suc e) | inr m ↦ inr m ]

pub marked_set : (marks : List Bool) (i : ℕ) → i < length marks → IsMarked (set marks i true) i
marked_set [] i h = absurd (omega arith)
marked_set (b ∷ bs) zero h = refl
marked_set (b ∷ bs) (suc i) h = marked_set bs i (omega arith)

-- at first there is no mark
pub unmarked_none : (n q : ℕ) → IsMarked (replicate n false) q → ⊥
unmarked_none zero q h = true≢false (sym h)
unmarked_none (suc n) zero h = true≢false (sym h)
unmarked_none (suc n) (suc q) h = unmarked_none n q h

-- a marked number is one of the list
pub marked_below : (marks : List Bool) (q : ℕ) → IsMarked marks q → q < length marks
marked_below [] q h = absurd (true≢false (sym h))
marked_below (b ∷ bs) zero h = omega arith
marked_below (b ∷ bs) (suc q) h = let below = marked_below bs q h in omega arith

-- within the list it is the same what stands past the end
pub marked_default : (marks : List Bool) (i : ℕ) → i < length marks → get_or marks i true ≡ true → IsMarked marks i
marked_default [] i l e = absurd (omega (arith, l))
marked_default (b ∷ bs) zero l e = e
marked_default (b ∷ bs) (suc i) l e = marked_default bs i (omega (arith, l)) e

pub unmarked_within : (marks : List Bool) (i : ℕ) → get_or marks i true ≡ false → i < length marks
unmarked_within [] i e = absurd (true≢false e)
unmarked_within (b ∷ bs) zero e = omega arith
unmarked_within (b ∷ bs) (suc i) e = let l = unmarked_within bs i e in omega (arith, l)

-- All of some numbers, and one of them

pub all_from : (marks : List Bool) (qs : List ℕ) → all_marked marks qs ≡ true → Every (IsMarked marks) qs
all_from marks [] h = tt
all_from marks (q ∷ qs) h = let parts = and_parts (get_or marks q false) (all_marked marks qs) h in
    (parts.0, all_from marks qs parts.1)

pub all_to : (marks : List Bool) (qs : List ℕ) → Every (IsMarked marks) qs → all_marked marks qs ≡ true
all_to marks [] h = refl
all_to marks (q ∷ qs) h = and_from (get_or marks q false) (all_marked marks qs) h.0 (all_to marks qs h.1)

pub some_from : (marks : List Bool) (qs : List ℕ) → some_marked marks qs ≡ true → (q : ℕ) × IsIn q qs × IsMarked marks q
some_from marks [] h = absurd (true≢false (sym h))
some_from marks (q ∷ qs) h = elim (or_cases (get_or marks q false) (some_marked marks qs) h) [
  | inl here ↦ (q, inl refl, here)
  | inr later ↦ (let w = some_from marks qs later in (w.0, inr w.1, w.2))
]

pub some_to : (marks : List Bool) (qs : List ℕ) (q : ℕ) → IsIn q qs → IsMarked marks q → some_marked marks qs ≡ true
some_to marks [] q i m = absurd i
some_to marks (p ∷ qs) q (inl e) m = let n : get_or marks p false ≡ true = rw (sym e) m in rw n refl
some_to marks (p ∷ qs) q (inr i) m = or_right (get_or marks p false) (some_marked marks qs) (some_to marks qs q i m)

-- How many marks there are

pub count_within : (marks : List Bool) → marked_count marks ≤ length marks
count_within [] = omega arith
count_within (true ∷ bs) = let rest = count_within bs in omega (arith, rest)
count_within (false ∷ bs) = let rest = count_within bs in omega (arith, rest)

pub count_none : (n : ℕ) → marked_count (replicate n false) ≡ 0
count_none zero = refl
count_none (suc n) = count_none n

-- one more, where there was none
pub count_set : (marks : List Bool) (i : ℕ) → get_or marks i true ≡ false → marked_count (set marks i true)
    ≡ marked_count marks + 1
count_set [] i e = absurd (true≢false e)
count_set (true ∷ bs) zero e = absurd (true≢false e)
count_set (false ∷ bs) zero e = refl
count_set (true ∷ bs) (suc i) e = let rest = count_set bs i e in omega (arith, rest)
count_set (false ∷ bs) (suc i) e = count_set bs i e

-- where each mark of the new list is one of the old, they are equal or the new list has fewer
pub marks_fall : (new old : List Bool) → length new ≡ length old → ((q : ℕ) → IsMarked new q → IsMarked old q)
    → (new ≡ old) ⊎ (marked_count new < marked_count old)
marks_fall [] [] e f = inl refl
marks_fall [] (c ∷ cs) e f = absurd (omega (arith, e))
marks_fall (b ∷ bs) [] e f = absurd (omega (arith, e))
marks_fall (b ∷ bs) (c ∷ cs) e f = here b c (f 0) (marks_fall bs cs (omega (arith, e)) (λ q. f (suc q)))
  where
    here : (x y : Bool) → (x ≡ true → y ≡ true) → ((bs ≡ cs) ⊎ (marked_count bs < marked_count cs)) → (x ∷ bs ≡ y ∷ cs)
        ⊎ (marked_count (x ∷ bs) < marked_count (y ∷ cs))
    here true true g (inl k) = inl (ap (λ (l : List Bool). true ∷ l) k)
    here true true g (inr k) = inr (omega (arith, k))
    here true false g k = absurd (true≢false (sym (g refl)))
    here false true g (inl k) = inr (let n = ap marked_count k in omega (arith, n))
    here false true g (inr k) = inr (omega (arith, k))
    here false false g (inl k) = inl (ap (λ (l : List Bool). false ∷ l) k)
    here false false g (inr k) = inr k

-- one more mark, by a test
pub marks_push : (P : ℕ → Type 0) (marks : List Bool) (k : ℕ) (b : Bool) → MarksOf k (λ q. (q < k) × P q) marks
    → (b ≡ true → P k) → (P k → b ≡ true) → MarksOf (k + 1) (λ q. (q < k + 1) × P q) (marks ++ b ∷ [])
marks_push P marks k b m f g = record {
  long = length-append marks (b ∷ []) ∙ (let l = m.long in omega (arith, l));
  only = λ q h. only q h;
  each = λ q h. each q h;
}
  where
    at_end : get_or (marks ++ b ∷ []) k false ≡ b
    at_end = get_or_push marks b false k m.long

    before : (q : ℕ) → q < k → get_or (marks ++ b ∷ []) q false ≡ get_or marks q false
    before q l = get_or_append_left marks (b ∷ []) false q (rw m.long l)

    low : (q : ℕ) → IsMarked (marks ++ b ∷ []) q → q < k + 1
    low q h = let a = marked_below (marks ++ b ∷ []) q h in let l = length-append marks (b ∷ []) in let n = m.long in
        omega (arith, a, l, n)

    last : (q : ℕ) → k ≤ q → q < k + 1 → q ≡ k
    last q g l = omega (arith, g, l)

    only : (q : ℕ) → IsMarked (marks ++ b ∷ []) q → (q < k + 1) × P q
    only q h = elim (cases_lt q k) [
      | inl l ↦ (low q h, (m.only q (sym (before q l) ∙ h)).1)
      | inr g ↦ (let e = last q g (low q h) in
          (low q h, subst P (sym e) (f (sym at_end ∙ subst (λ (i : ℕ). get_or (marks ++ b ∷ []) i false ≡ true) e h))))
    ]

    each : (q : ℕ) → ((q < k + 1) × P q) → IsMarked (marks ++ b ∷ []) q
    each q h = elim (cases_lt q k) [
      | inl l ↦ before q l ∙ m.each q (l, h.1)
      | inr u ↦ (let e = last q u h.0 in
          subst (λ (i : ℕ). get_or (marks ++ b ∷ []) i false ≡ true) (sym e) (at_end ∙ g (subst P e h.1)))
    ]
