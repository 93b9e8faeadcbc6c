-- Lists that have each number equally often are rearranged.
use Rattle.std.proofs.Common.{◌≡◌, inl, inr, ℕ, ◌≤◌, ◌+◌, Bool, true, false, cond, nat_eq, List, [], ◌∷◌, length, refl}
use Rattle.std.proofs.Common.{sym, subst, ◌∙◌, arith}
use Rattle.std.proofs.lemmas.Bool.{eqb-true}
use Rattle.fore_base.specs.Lists.{IsIn}
use Rattle.fa_core.specs.Rearranged.{Rearranged, empty, keep, swap, chain, often}
use Rattle.fa_core.proofs.Counts.{often_here, often_same}
use Rattle.fa_core.proofs.Rearranging.{same, back, long_same}

-- without the first x
abbrev without : ℕ → List ℕ → List ℕ
without x [] = []
without x (y ∷ ys) = cond (nat_eq x y) ys (y ∷ without x ys)

taken : (x : ℕ) (ys : List ℕ) → 1 ≤ often x ys → Rearranged ys (x ∷ without x ys)
taken x [] h = absurd (omega (arith, h))
taken x (y ∷ ys) h = here (nat_eq x y) refl h (taken x ys)
  where
    here : (b : Bool) → nat_eq x y ≡ b → 1 ≤ cond b (often x ys + 1) (often x ys)
        → (1 ≤ often x ys → Rearranged ys (x ∷ without x ys)) → Rearranged (y ∷ ys) (x ∷ cond b ys (y ∷ without x ys))
    here true e h f = subst (λ (z : ℕ). Rearranged (y ∷ ys) (z ∷ ys)) (sym (eqb-true x y e)) (same (y ∷ ys))
    here false e h f = chain (keep y (f h)) (swap y x (without x ys))

-- one x less on both sides
less : (x n : ℕ) (xs ys : List ℕ) → Rearranged ys (x ∷ without x ys) → often n (x ∷ xs) ≡ often n ys
    → often n xs ≡ often n (without x ys)
less x n xs ys t e = here (nat_eq n x) (e ∙ often_same n t)
  where
    here : (b : Bool) → cond b (often n xs + 1) (often n xs)
        ≡ cond b (often n (without x ys) + 1) (often n (without x ys)) → often n xs ≡ often n (without x ys)
    here true e = omega (arith, e)
    here false e = e

pub alike : (xs ys : List ℕ) → ((n : ℕ) → often n xs ≡ often n ys) → Rearranged xs ys
alike [] [] f = empty
alike [] (y ∷ ys) f =
    let e = f y in let h = often_here y ys in let z : 0 ≡ often y (y ∷ ys) = e in absurd (omega (arith, z, h))
alike (x ∷ xs) ys f =
    let e = f x in
    let h = often_here x xs in
    let t = taken x ys (omega (arith, e, h)) in
    chain (keep x (alike xs (without x ys) (λ n. less x n xs ys t (f n)))) (back t)

-- of lists that are as long as each other the numbers of the first are enough
pub alike_by : (xs ys : List ℕ) → length xs ≡ length ys → ((n : ℕ) → IsIn n xs → often n xs ≡ often n ys)
    → Rearranged xs ys
alike_by [] [] l f = empty
alike_by [] (y ∷ ys) l f = absurd (omega (arith, l))
alike_by (x ∷ xs) ys l f =
    let e = f x (inl refl) in
    let h = often_here x xs in
    let t = taken x ys (omega (arith, e, h)) in
    let m = long_same t in
    chain
    (keep x (alike_by xs (without x ys) (omega (arith, l, m)) (λ n i. less x n xs ys t (f n (inr i)))))
    (back t)
