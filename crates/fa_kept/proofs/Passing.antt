-- How far the first item that meets a predicate was looked for.
use Rattle.std.proofs.Common.{◌≡◌, ◌↔◌, ℕ, zero, suc, ◌+◌, ◌<◌, ◌≤◌, Bool, true, false, List, [], ◌∷◌, length, Some}
use Rattle.std.proofs.Common.{IsTrue, slice_get, take, drop, refl, sym, ap, subst, arith, ◌∙◌}
use Rattle.std.proofs.lemmas.Bool.{false≢true}
use Rattle.std.proofs.lemmas.Option.{none-some, same_Some}
use Rattle.fore_base.specs.Lists.{Every, Paired}
use Rattle.par_kit.specs.Phases.{NoneMeets, IsLeast}
use Rattle.fa_kept.specs.inner.Asking.{IsPassed, IsPassedTo, passed_one}

-- an item of the rest is one of the list
rest_at : {X : Type 0} (xs : List X) (at n k : ℕ) → k ≡ at + n → slice_get (drop at xs) n ≡ slice_get xs k
rest_at xs zero n k e = let d : n ≡ k = omega (arith, e) in ap (slice_get xs) d
rest_at [] (suc at) n k e = refl
rest_at (x ∷ xs) (suc at) n zero e = absurd (omega (arith, e))
rest_at (x ∷ xs) (suc at) n (suc k) e = rest_at xs at n k (omega (arith, e))

-- an item of the front is one of the list
front_at : {X : Type 0} (xs : List X) (m n : ℕ) (x : X) → slice_get (take m xs) n ≡ Some x → slice_get xs n ≡ Some x
front_at xs zero n x e = absurd (none-some x e)
front_at [] (suc m) n x e = e
front_at (y ∷ xs) (suc m) zero x e = e
front_at (y ∷ xs) (suc m) (suc n) x e = front_at xs m n x e

at_within : {X : Type 0} (xs : List X) (n : ℕ) (x : X) → slice_get xs n ≡ Some x → n ≤ length xs
at_within [] n x e = absurd (none-some x e)
at_within (y ∷ xs) zero x e = omega arith
at_within (y ∷ xs) (suc n) x e = let l = at_within xs n x e in omega (arith, l)

module _ {X : Type 0} (P : X → Type 0) where
  none_on : (xs : List X) (at n k : ℕ) → k ≡ at + n → NoneMeets P (take at xs) → NoneMeets P (take n (drop at xs))
      → NoneMeets P (take k xs)
  none_on xs zero n k e none more =
      let d : n ≡ k = omega (arith, e) in subst (λ m. NoneMeets P (take m xs)) d more
  none_on xs (suc at) n zero e none more = tt
  none_on [] (suc at) n (suc k) e none more = tt
  none_on (x ∷ xs) (suc at) n (suc k) e none more = (none.0, none_on xs at n k (omega (arith, e)) none.1 more)

  front_none : (xs : List X) (m n : ℕ) → n ≤ length (take m xs) → NoneMeets P (take n (take m xs))
      → NoneMeets P (take n xs)
  front_none xs m zero low none = tt
  front_none xs zero (suc n) low none = absurd (omega (arith, low))
  front_none [] (suc m) (suc n) low none = tt
  front_none (x ∷ xs) (suc m) (suc n) low none = (none.0, front_none xs m n (omega (arith, low)) none.1)

  -- behind items that do not meet P, what is the least of the rest is the least of all
  pub least_on : (xs : List X) (at n : ℕ) → NoneMeets P (take at xs) → IsLeast P (drop at xs) n
      → IsLeast P xs (at + n)
  least_on xs at n none least =
      (least.0, sym (rest_at xs at n (at + n) refl) ∙ least.1, least.2, none_on xs at n (at + n) refl none least.3)

  pub passed_on : (xs : List X) (at n : ℕ) → NoneMeets P (take at xs) → IsPassedTo P (drop at xs) n false
      → NoneMeets P (take (at + n) xs)
  passed_on xs at n none passed = none_on xs at n (at + n) refl none passed.2

  -- what was passed of a front was passed of the list
  pub front_passed : (xs : List X) (m n : ℕ) (met : Bool) → IsPassedTo P (take m xs) n met → IsPassedTo P xs n met
  front_passed xs m n true least = (
    least.0,
    front_at xs m n least.0 least.1,
    least.2,
    front_none xs m n (at_within (take m xs) n least.0 least.1) least.3,
  )
  front_passed xs m n false passed =
      (passed.0, front_within xs m n passed.1, front_none xs m n passed.1 passed.2)
    where
      front_within : (xs : List X) (m n : ℕ) → n ≤ length (take m xs) → n ≤ length xs
      front_within xs zero n low = let l = low in omega (arith, l)
      front_within [] (suc m) n low = low
      front_within (x ∷ xs) (suc m) zero low = omega arith
      front_within (x ∷ xs) (suc m) (suc n) low =
          let l = front_within xs m n (omega (arith, low)) in omega (arith, l)

  -- one item, that meets P or does not
  pub one_passed : (xs : List X) (x : X) (met : Bool) → slice_get xs 0 ≡ Some x → (IsTrue met ↔ P x)
      → IsPassed P xs (passed_one met)
  one_passed xs x true at d = (x, at, d.0 refl, tt)
  one_passed [] x false at d = absurd (none-some x at)
  one_passed (y ∷ xs) x false at d =
      (omega arith, omega arith, ((λ p. false≢true (d.1 (subst P (same_Some y x at) p))), tt))

  module _ {Y : Type 0} (Q : Y → Type 0) (R : X → Y → Type 0) (same : (x : X) (y : Y) → R x y → (Q y ↔ P x)) where
    none_paired : (xs : List X) (ys : List Y) (n : ℕ) → Paired R xs ys → NoneMeets Q (take n ys)
        → NoneMeets P (take n xs)
    none_paired xs ys zero p none = tt
    none_paired [] ys (suc n) p none = tt
    none_paired (x ∷ xs) [] (suc n) p none = absurd p
    none_paired (x ∷ xs) (y ∷ ys) (suc n) p none =
        ((λ h. none.0 ((same x y p.0).1 h)), none_paired xs ys n p.1 none.1)

    long_paired : (xs : List X) (ys : List Y) (n : ℕ) → Paired R xs ys → n ≤ length ys → n ≤ length xs
    long_paired [] [] n p low = low
    long_paired [] (y ∷ ys) n p low = absurd p
    long_paired (x ∷ xs) [] n p low = absurd p
    long_paired (x ∷ xs) (y ∷ ys) zero p low = omega arith
    long_paired (x ∷ xs) (y ∷ ys) (suc n) p low =
        let l = long_paired xs ys n p.1 (omega (arith, low)) in omega (arith, l)

    partner_at : (xs : List X) (ys : List Y) (n : ℕ) (y : Y) → Paired R xs ys → slice_get ys n ≡ Some y
        → (x : X) × (slice_get xs n ≡ Some x) × R x y
    partner_at [] [] n y p e = absurd (none-some y e)
    partner_at [] (z ∷ ys) n y p e = absurd p
    partner_at (x ∷ xs) [] n y p e = absurd p
    partner_at (x ∷ xs) (z ∷ ys) zero y p e = (x, refl, subst (R x) (same_Some z y e) p.0)
    partner_at (x ∷ xs) (z ∷ ys) (suc n) y p e = partner_at xs ys n y p.1 e

    -- of lists that are paired the same was passed
    pub paired_passed : (xs : List X) (ys : List Y) (n : ℕ) (met : Bool) → Paired R xs ys → IsPassedTo Q ys n met
        → IsPassedTo P xs n met
    paired_passed xs ys n true p least =
        let at = partner_at xs ys n least.0 p least.1 in
        (at.0, at.1, (same at.0 least.0 at.2).0 least.2, none_paired xs ys n p least.3)
    paired_passed xs ys n false p passed =
        (passed.0, long_paired xs ys n p passed.1, none_paired xs ys n p passed.2)
