-- How often a number stands in a list, and lists of numbers below a bound.
use Rattle.std.proofs.Common.{◌≡◌, ◌⊎◌, inl, inr, ℕ, ◌≤◌, ◌+◌, Bool, true, false, true≢false, cond, nat_eq, List, []}
use Rattle.std.proofs.Common.{◌∷◌, ◌++◌, refl, sym, ap, ◌∙◌, arith}
use Rattle.std.proofs.lemmas.Bool.{eqb-true, eq-eqb}
use Rattle.fore_base.specs.Lists.{IsIn}
use Rattle.fa_core.specs.Rearranged.{Rearranged, empty, keep, swap, chain, often}
use Rattle.fa_core.specs.References.{AllBelow, IsNever, IsOnce}

-- Counts.

two_swapped : (n : ℕ) (a b : Bool) → cond a (cond b (n + 1) n + 1) (cond b (n + 1) n)
    ≡ cond b (cond a (n + 1) n + 1) (cond a (n + 1) n)
two_swapped n true true = refl
two_swapped n true false = refl
two_swapped n false true = refl
two_swapped n false false = refl

-- rearranged lists have a number equally often
pub often_same : (k : ℕ) {xs ys : List ℕ} → Rearranged xs ys → often k xs ≡ often k ys
often_same k empty = refl
often_same k (keep x r) = ap (λ (z : ℕ). cond (nat_eq k x) (z + 1) z) (often_same k r)
often_same k (swap x y xs) = two_swapped (often k xs) (nat_eq k x) (nat_eq k y)
often_same k (chain a b) = often_same k a ∙ often_same k b

pub often_here : (k : ℕ) (xs : List ℕ) → often k (k ∷ xs) ≡ often k xs + 1
often_here k xs = let e = eq-eqb k k refl in rw e refl

pub often_more : (k x : ℕ) (xs : List ℕ) → often k xs ≤ often k (x ∷ xs)
often_more k x xs = here (nat_eq k x)
  where
    here : (b : Bool) → often k xs ≤ cond b (often k xs + 1) (often k xs)
    here true = omega arith
    here false = omega arith

pub often_both : (k : ℕ) (xs ys : List ℕ) → often k (xs ++ ys) ≡ often k xs + often k ys
often_both k [] ys = omega arith
often_both k (x ∷ xs) ys = here (nat_eq k x) (often_both k xs ys)
  where
    here : (b : Bool) → often k (xs ++ ys) ≡ often k xs + often k ys
        → cond b (often k (xs ++ ys) + 1) (often k (xs ++ ys)) ≡ cond b (often k xs + 1) (often k xs) + often k ys
    here true e = omega (arith, e)
    here false e = e

-- Never, and once.

pub never_often : (k : ℕ) (xs : List ℕ) → often k xs ≡ 0 → IsNever k xs
never_often k [] e = tt
never_often k (x ∷ xs) e = here (nat_eq k x) refl e (never_often k xs)
  where
    here : (b : Bool) → nat_eq k x ≡ b → cond b (often k xs + 1) (often k xs) ≡ 0 → (often k xs ≡ 0 → IsNever k xs)
        → (nat_eq k x ≡ false) × IsNever k xs
    here true w e r = let z : often k xs + 1 ≡ 0 = e in absurd (omega (arith, z))
    here false w e r = (w, r e)

pub often_never : (k : ℕ) (xs : List ℕ) → IsNever k xs → often k xs ≡ 0
often_never k [] h = refl
often_never k (x ∷ xs) h = here (nat_eq k x) h.0 (often_never k xs h.1)
  where
    here : (b : Bool) → b ≡ false → often k xs ≡ 0 → cond b (often k xs + 1) (often k xs) ≡ 0
    here true w e = absurd (true≢false w)
    here false w e = e

pub once_often : (k : ℕ) (xs : List ℕ) → often k xs ≡ 1 → IsOnce k xs
once_often k [] e = let z : 0 ≡ 1 = e in absurd (omega (arith, z))
once_often k (x ∷ xs) e = here (nat_eq k x) refl e (once_often k xs)
  where
    here : (b : Bool) → nat_eq k x ≡ b → cond b (often k xs + 1) (often k xs) ≡ 1 → (often k xs ≡ 1 → IsOnce k xs)
        → IsOnce k (x ∷ xs)
    here true w e r = inl (w, never_often k xs (let z : often k xs + 1 ≡ 1 = e in omega (arith, z)))
    here false w e r = inr (w, r e)

pub often_once : (k : ℕ) (xs : List ℕ) → IsOnce k xs → often k xs ≡ 1
often_once k [] h = absurd h
often_once k (x ∷ xs) (inl h) = here (nat_eq k x) h.0 (often_never k xs h.1)
  where
    here : (b : Bool) → b ≡ true → often k xs ≡ 0 → cond b (often k xs + 1) (often k xs) ≡ 1
    here true w e = omega (arith, e)
    here false w e = absurd (true≢false (sym w))
often_once k (x ∷ xs) (inr h) = here (nat_eq k x) h.0 (often_once k xs h.1)
  where
    here : (b : Bool) → b ≡ false → often k xs ≡ 1 → cond b (often k xs + 1) (often k xs) ≡ 1
    here true w e = absurd (true≢false w)
    here false w e = e

pub never_left : (k : ℕ) (xs ys : List ℕ) → IsNever k (xs ++ ys) → IsNever k xs
never_left k [] ys h = tt
never_left k (x ∷ xs) ys h = (h.0, never_left k xs ys h.1)

pub never_right : (k : ℕ) (xs ys : List ℕ) → IsNever k (xs ++ ys) → IsNever k ys
never_right k [] ys h = h
never_right k (x ∷ xs) ys h = never_right k xs ys h.1

pub never_both : (k : ℕ) (xs ys : List ℕ) → IsNever k xs → IsNever k ys → IsNever k (xs ++ ys)
never_both k [] ys h l = l
never_both k (x ∷ xs) ys h l = (h.0, never_both k xs ys h.1 l)

-- a number of two lists stands in one of them, and not in the other
pub once_cases : (k : ℕ) (xs ys : List ℕ) → IsOnce k (xs ++ ys) → (IsOnce k xs × IsNever k ys)
    ⊎ (IsNever k xs × IsOnce k ys)
once_cases k [] ys h = inr (tt, h)
once_cases k (x ∷ xs) ys (inl h) = inl (inl (h.0, never_left k xs ys h.1), never_right k xs ys h.1)
once_cases k (x ∷ xs) ys (inr h) = more (once_cases k xs ys h.1)
  where
    more : (IsOnce k xs × IsNever k ys) ⊎ (IsNever k xs × IsOnce k ys) → (IsOnce k (x ∷ xs) × IsNever k ys)
        ⊎ (IsNever k (x ∷ xs) × IsOnce k ys)
    more (inl p) = inl (inr (h.0, p.0), p.1)
    more (inr p) = inr ((h.0, p.0), p.1)

-- Numbers of the list.

pub often_in : (k : ℕ) (xs : List ℕ) → IsIn k xs → 1 ≤ often k xs
often_in k [] h = absurd h
often_in k (x ∷ xs) h = here (nat_eq k x) refl h (often_in k xs)
  where
    here : (b : Bool) → nat_eq k x ≡ b → IsIn k (x ∷ xs) → (IsIn k xs → 1 ≤ often k xs)
        → 1 ≤ cond b (often k xs + 1) (often k xs)
    here true e h f = omega arith
    here false e (inl w) f = absurd (true≢false (sym (eq-eqb k x w) ∙ e))
    here false e (inr w) f = f w

pub often_out : (k : ℕ) (xs : List ℕ) → (IsIn k xs → ⊥) → often k xs ≡ 0
often_out k [] h = refl
often_out k (x ∷ xs) h = here (nat_eq k x) refl (often_out k xs (λ w. h (inr w)))
  where
    here : (b : Bool) → nat_eq k x ≡ b → often k xs ≡ 0 → cond b (often k xs + 1) (often k xs) ≡ 0
    here true e f = absurd (h (inl (eqb-true k x e)))
    here false e f = f

-- a number stands in the list or does not
pub in_or_out : (k : ℕ) (xs : List ℕ) → IsIn k xs ⊎ (IsIn k xs → ⊥)
in_or_out k [] = inr (λ h. h)
in_or_out k (x ∷ xs) = here (nat_eq k x) refl (in_or_out k xs)
  where
    here : (b : Bool) → nat_eq k x ≡ b → IsIn k xs ⊎ (IsIn k xs → ⊥) → IsIn k (x ∷ xs) ⊎ (IsIn k (x ∷ xs) → ⊥)
    here true e w = inl (inl (eqb-true k x e))
    here false e (inl w) = inl (inr w)
    here false e (inr w) = inr (λ h. elim h [ inl g ↦ true≢false (sym (eq-eqb k x g) ∙ e) | inr g ↦ w g ])

-- Bounds.

pub below_both : (m : ℕ) (xs ys : List ℕ) → AllBelow m xs → AllBelow m ys → AllBelow m (xs ++ ys)
below_both m [] ys h k = k
below_both m (x ∷ xs) ys h k = (h.0, below_both m xs ys h.1 k)

pub below_left : (m : ℕ) (xs ys : List ℕ) → AllBelow m (xs ++ ys) → AllBelow m xs
below_left m [] ys h = tt
below_left m (x ∷ xs) ys h = (h.0, below_left m xs ys h.1)

pub below_right : (m : ℕ) (xs ys : List ℕ) → AllBelow m (xs ++ ys) → AllBelow m ys
below_right m [] ys h = h
below_right m (x ∷ xs) ys h = below_right m xs ys h.1

pub below_wider : (m n : ℕ) → m ≤ n → (xs : List ℕ) → AllBelow m xs → AllBelow n xs
below_wider m n l [] h = tt
below_wider m n l (x ∷ xs) h = (let a = h.0 in omega (arith, a, l), below_wider m n l xs h.1)

-- a bound does not stand below itself
pub often_below : (k : ℕ) (xs : List ℕ) → AllBelow k xs → often k xs ≡ 0
often_below k [] h = refl
often_below k (x ∷ xs) h = here (nat_eq k x) refl (often_below k xs h.1)
  where
    here : (b : Bool) → nat_eq k x ≡ b → often k xs ≡ 0 → cond b (often k xs + 1) (often k xs) ≡ 0
    here true w e = let l = h.0 in let v = eqb-true k x w in absurd (omega (arith, l, v))
    here false w e = e

pub never_below : (k : ℕ) (xs : List ℕ) → AllBelow k xs → IsNever k xs
never_below k xs h = never_often k xs (often_below k xs h)
