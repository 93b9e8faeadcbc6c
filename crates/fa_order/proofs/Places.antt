-- Places of roots in lists, and the numbers in order.
use Rattle.std.proofs.Common.{◌≡◌, inl, inr, ℕ, zero, suc, ◌<◌, ◌≤◌, ◌+◌, Bool, true, false, true≢false, cond, nat_eq}
use Rattle.std.proofs.Common.{length, List, [], ◌∷◌, ◌++◌, map, refl, sym, ap, ap₂, subst, ◌∙◌, arith}
use Rattle.std.proofs.lemmas.Bool.{eqb-true, eq-eqb}
use Rattle.fore_base.specs.Lists.{IsIn}
use Rattle.fore_base.proofs.ListLemmas.{every_in}
use Rattle.fa_core.proofs.Counts.{in_or_out}
use Rattle.fa_merge.specs.Reordered.{counted, place_from, place_of}
use Rattle.fa_merge.proofs.MergedAnywhere.{in_counted}
use Rattle.fa_merge.proofs.OtherOrders.{counted_below}

-- Places in an order that begins with `xs`.

pub place_before : (i : ℕ) (xs ys : List ℕ) (r : ℕ) → IsIn r xs → place_from i (xs ++ ys) r < i + length xs
place_before i [] ys r h = absurd h
place_before i (x ∷ xs) ys r h = here (nat_eq x r) refl h (place_before (suc i) xs ys r)
  where
    here : (b : Bool) → nat_eq x r ≡ b → IsIn r (x ∷ xs)
        → (IsIn r xs → place_from (suc i) (xs ++ ys) r < suc i + length xs) → cond b i (place_from (suc i) (xs ++ ys) r)
        < i + suc (length xs)
    here true e h k = omega arith
    here false e (inl w) k = absurd (true≢false (sym (eq-eqb x r (sym w)) ∙ e))
    here false e (inr w) k = let l = k w in omega (arith, l)

pub place_same : (i : ℕ) (xs ys : List ℕ) (r : ℕ) → IsIn r xs → place_from i (xs ++ ys) r ≡ place_from i xs r
place_same i [] ys r h = absurd h
place_same i (x ∷ xs) ys r h = here (nat_eq x r) refl h (place_same (suc i) xs ys r)
  where
    here : (b : Bool) → nat_eq x r ≡ b → IsIn r (x ∷ xs)
        → (IsIn r xs → place_from (suc i) (xs ++ ys) r ≡ place_from (suc i) xs r)
        → cond b i (place_from (suc i) (xs ++ ys) r) ≡ cond b i (place_from (suc i) xs r)
    here true e h k = refl
    here false e (inl w) k = absurd (true≢false (sym (eq-eqb x r (sym w)) ∙ e))
    here false e (inr w) k = k w

pub place_no_less : (i : ℕ) (ys : List ℕ) (r : ℕ) → IsIn r ys → i ≤ place_from i ys r
place_no_less i [] r h = absurd h
place_no_less i (y ∷ ys) r h = here (nat_eq y r) refl h (place_no_less (suc i) ys r)
  where
    here : (b : Bool) → nat_eq y r ≡ b → IsIn r (y ∷ ys) → (IsIn r ys → suc i ≤ place_from (suc i) ys r)
        → i ≤ cond b i (place_from (suc i) ys r)
    here true e h k = omega arith
    here false e (inl w) k = absurd (true≢false (sym (eq-eqb y r (sym w)) ∙ e))
    here false e (inr w) k = let l = k w in omega (arith, l)

pub place_after : (i : ℕ) (xs ys : List ℕ) (r : ℕ) → (IsIn r xs → ⊥) → IsIn r ys
    → i + length xs ≤ place_from i (xs ++ ys) r
place_after i [] ys r o h = let l = place_no_less i ys r h in omega (arith, l)
place_after i (x ∷ xs) ys r o h = here (nat_eq x r) refl (place_after (suc i) xs ys r (λ w. o (inr w)) h)
  where
    here : (b : Bool) → nat_eq x r ≡ b → suc i + length xs ≤ place_from (suc i) (xs ++ ys) r
        → i + suc (length xs) ≤ cond b i (place_from (suc i) (xs ++ ys) r)
    here true e k = absurd (o (inl (sym (eqb-true x r e))))
    here false e k = omega (arith, k)

pub place_at_end : (i : ℕ) (xs ys : List ℕ) (r : ℕ) → (IsIn r xs → ⊥) → place_from i (xs ++ r ∷ ys) r ≡ i + length xs
place_at_end i [] ys r h = rw (eq-eqb r r refl) (let e : i ≡ i + 0 = omega arith in e)
place_at_end i (x ∷ xs) ys r h = here (nat_eq x r) refl (place_at_end (suc i) xs ys r (λ w. h (inr w)))
  where
    here : (b : Bool) → nat_eq x r ≡ b → place_from (suc i) (xs ++ r ∷ ys) r ≡ suc i + length xs
        → cond b i (place_from (suc i) (xs ++ r ∷ ys) r) ≡ i + suc (length xs)
    here true e k = absurd (h (inl (sym (eqb-true x r e))))
    here false e k = omega (arith, k)

pub length_push : (xs : List ℕ) (x : ℕ) → length (xs ++ x ∷ []) ≡ suc (length xs)
length_push [] x = refl
length_push (y ∷ xs) x = ap (λ k. suc k) (length_push xs x)

-- a root that has no place keeps its number
pub place_out : (i : ℕ) (xs : List ℕ) (k : ℕ) → (IsIn k xs → ⊥) → place_from i xs k ≡ k
place_out i [] k h = refl
place_out i (x ∷ xs) k h = here (nat_eq x k) refl (place_out (suc i) xs k (λ w. h (inr w)))
  where
    here : (b : Bool) → nat_eq x k ≡ b → place_from (suc i) xs k ≡ k → cond b i (place_from (suc i) xs k) ≡ k
    here true e f = absurd (h (inl (sym (eqb-true x k e))))
    here false e f = f

-- Places tell placed roots apart.
pub one_place : (i : ℕ) (xs : List ℕ) (a b : ℕ) → IsIn a xs → IsIn b xs → place_from i xs a ≡ place_from i xs b → a ≡ b
one_place i [] a b h k e = absurd h
one_place i (x ∷ xs) a b h k e = here (nat_eq x a) refl (nat_eq x b) refl h k e (one_place (suc i) xs a b)
  where
    later : (c : ℕ) → nat_eq x c ≡ false → IsIn c (x ∷ xs) → IsIn c xs
    later c d (inl z) = absurd (true≢false (sym (eq-eqb x c (sym z)) ∙ d))
    later c d (inr z) = z

    past : (n : ℕ) → suc n ≤ n → ⊥
    past n l = omega (arith, l)

    here : (u : Bool) → nat_eq x a ≡ u → (v : Bool) → nat_eq x b ≡ v → IsIn a (x ∷ xs) → IsIn b (x ∷ xs)
        → cond u i (place_from (suc i) xs a) ≡ cond v i (place_from (suc i) xs b)
        → (IsIn a xs → IsIn b xs → place_from (suc i) xs a ≡ place_from (suc i) xs b → a ≡ b) → a ≡ b
    here true d true f h k e g = sym (eqb-true x a d) ∙ eqb-true x b f
    here true d false f h k e g = absurd
        (past i (subst (λ (z : ℕ). suc i ≤ z) (sym e) (place_no_less (suc i) xs b (later b f k))))
    here false d true f h k e g = absurd
        (past i (subst (λ (z : ℕ). suc i ≤ z) e (place_no_less (suc i) xs a (later a d h))))
    here false d false f h k e g = g (later a d h) (later b f k) e

-- The numbers in order.

pub counted_is_below : (n k : ℕ) → IsIn k (counted 0 n) → k < n
counted_is_below n k i = every_in (λ j. j < n) (counted 0 n) k (counted_below 0 n n (omega arith)) i

pub below_counted : (n k : ℕ) → k < n → IsIn k (counted 0 n)
below_counted n k l = in_counted 0 n k (omega arith) (omega (arith, l))

pub not_below : (n k : ℕ) → n ≤ k → IsIn k (counted 0 n) → ⊥
not_below n k l i = let m = counted_is_below n k i in omega (arith, l, m)

pub out_above : (n k : ℕ) → (IsIn k (counted 0 n) → ⊥) → n ≤ k
out_above n k o = omega (arith, (λ (l : k < n). o (below_counted n k l)))

pub counted_push : (k n : ℕ) → counted k n ++ (k + n) ∷ [] ≡ counted k (suc n)
counted_push k zero = ap (λ (z : ℕ). z ∷ []) (let e : k + 0 ≡ k = omega arith in e)
counted_push k (suc n) =
    ap (λ (z : List ℕ). k ∷ z)
    (ap (λ (z : ℕ). counted (suc k) n ++ z ∷ []) (let e : k + suc n ≡ suc k + n = omega arith in e)
    ∙ counted_push (suc k) n)

place_counted_from : (i n k : ℕ) → i ≤ k → k < i + n → place_from i (counted i n) k ≡ k
place_counted_from i zero k l h = absurd (omega (arith, l, h))
place_counted_from i (suc n) k l h = here (nat_eq i k) refl (λ m. place_counted_from (suc i) n k m (omega (arith, h)))
  where
    here : (b : Bool) → nat_eq i k ≡ b → (suc i ≤ k → place_from (suc i) (counted (suc i) n) k ≡ k)
        → cond b i (place_from (suc i) (counted (suc i) n) k) ≡ k
    here true e f = eqb-true i k e
    here false e f = f (omega (arith, l, (λ (z : i ≡ k). true≢false (sym (eq-eqb i k z) ∙ e))))

-- in the order of their numbers each root keeps its number
pub place_counted : (n k : ℕ) → place_of (counted 0 n) k ≡ k
place_counted n k = elim (in_or_out k (counted 0 n)) [
  | inl i ↦ (let l = counted_is_below n k i in place_counted_from 0 n k (omega arith) (omega (arith, l)))
  | inr o ↦ place_out 0 (counted 0 n) k o
]

pub same_map : (f : ℕ → ℕ) (xs : List ℕ) → ((k : ℕ) → f k ≡ k) → map f xs ≡ xs
same_map f [] h = refl
same_map f (x ∷ xs) h = ap₂ (λ (y : ℕ) (ys : List ℕ). y ∷ ys) (h x) (same_map f xs h)
