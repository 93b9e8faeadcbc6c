-- Sums up to a cap.
use Rattle.std.proofs.Common.{◌≡◌, inl, inr, ℕ, ◌≤◌, ◌+◌, List, [], ◌∷◌, map, min, refl, sym, ap, ◌∙◌, arith}
use Rattle.std.proofs.lemmas.Bool.{cases_lt}
use Rattle.std.proofs.Math.Nat.{min-eq_left, min-eq_right}
use Rattle.fore_base.specs.Lists.{Every, sum_of}

below : (a c : ℕ) → a ≤ c → min a c ≡ a
below a c l = min-eq_left l

above : (a c : ℕ) → c ≤ a → min a c ≡ c
above a c l = min-eq_right l

-- a part may be cut to the cap before it is added
pub cap_left : (a b c : ℕ) → min (min a c + b) c ≡ min (a + b) c
cap_left a b c = elim (cases_lt c a) [
  | inl l ↦ (let m = above a c (omega (arith, l)) in
      above (min a c + b) c (omega (arith, m)) ∙ sym (above (a + b) c (omega (arith, l))))
  | inr l ↦ ap (λ (n : ℕ). min (n + b) c) (below a c l)
]

pub cap_right : (a b c : ℕ) → min (a + min b c) c ≡ min (a + b) c
cap_right a b c = elim (cases_lt c b) [
  | inl l ↦ (let m = above b c (omega (arith, l)) in
      above (a + min b c) c (omega (arith, m)) ∙ sym (above (a + b) c (omega (arith, l))))
  | inr l ↦ ap (λ (n : ℕ). min (a + n) c) (below b c l)
]

-- cut to two caps, the greater one first
pub cap_twice : (a m c : ℕ) → c ≤ m → min (min a m) c ≡ min a c
cap_twice a m c g = elim (cases_lt m a) [
  | inl l ↦ ap (λ (n : ℕ). min n c) (above a m (omega (arith, l))) ∙ above m c g
      ∙ sym (above a c (omega (arith, g, l)))
  | inr l ↦ ap (λ (n : ℕ). min n c) (below a m l)
]

-- one item more, where the sum so far is cut
pub cap_step : (a x s m c : ℕ) → c ≤ m → min (min (min (a + x) m) c + s) c ≡ min (a + (x + s)) c
cap_step a x s m c g = ap (λ (n : ℕ). min (n + s) c) (cap_twice (a + x) m c g) ∙ cap_left (a + x) s c
    ∙ ap (λ (n : ℕ). min n c) (omega arith)

-- the items of a sum may be cut to the cap
pub cap_sum : (f g : ℕ → ℕ) (c : ℕ) (xs : List ℕ) (a : ℕ) → Every (λ x. g x ≡ min (f x) c) xs
    → min (a + sum_of (map g xs)) c ≡ min (a + sum_of (map f xs)) c
cap_sum f g c [] a h = refl
cap_sum f g c (x ∷ xs) a h =
    let e = h.0 in
    let here : min (a + (g x + sum_of (map g xs))) c ≡ min ((a + sum_of (map g xs)) + min (f x) c) c =
    ap (λ (n : ℕ). min n c) (omega (arith, e)) in
    let turned : min ((a + sum_of (map g xs)) + f x) c ≡ min ((a + f x) + sum_of (map g xs)) c =
    ap (λ (n : ℕ). min n c) (omega arith) in
    let back : min ((a + f x) + sum_of (map f xs)) c ≡ min (a + (f x + sum_of (map f xs))) c =
    ap (λ (n : ℕ). min n c) (omega arith) in
    here ∙ cap_right (a + sum_of (map g xs)) (f x) c ∙ turned ∙ cap_sum f g c xs (a + f x) h.1 ∙ back
