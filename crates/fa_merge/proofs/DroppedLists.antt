-- Lists without the item at a place, by lower numbers.
use Rattle.std.proofs.Common.{◌≡◌, ◌≢◌, inl, inr, ℕ, zero, suc, ◌<◌, ◌+◌, List, [], ◌∷◌, refl, sym, ap, subst}
use Rattle.std.proofs.Common.{slice_get}
use Rattle.std.proofs.Common.{Some, arith}
use Rattle.std.proofs.lemmas.Option.{none-some}
use Rattle.fa_merge.specs.Dropped.{but_place}
use Rattle.fa_merge.specs.Merged.{lowered}
use Rattle.fa_merge.proofs.Lowered.{lowered_above, lowered_below}
use Rattle.fa_merge.proofs.MergedAnywhere.{nat_cases}

pub lowered_suc : (r k : ℕ) → lowered (suc r) (suc k) ≡ suc (lowered r k)
lowered_suc r k = elim (nat_cases r k) [
  | inl l ↦ (let a = lowered_above r k l in let b = lowered_above (suc r) (suc k) (omega (arith, l)) in
      omega (arith, a, b))
  | inr l ↦ (let a = lowered_below r k l in let b = lowered_below (suc r) (suc k) (omega (arith, l)) in
      omega (arith, a, b))
]

-- the item of another place
pub get_but : {X : Type 0} (r k : ℕ) (xs : List X) (x : X) → k ≢ r → slice_get xs k ≡ Some x
    → slice_get (but_place r xs) (lowered r k) ≡ Some x
get_but r k [] x d e = absurd (none-some x e)
get_but zero zero (y ∷ xs) x d e = absurd (d refl)
get_but {X} zero (suc k) (y ∷ xs) x d e =
    let a = lowered_above 0 (suc k) (omega arith) in
    let b : k ≡ lowered 0 (suc k) = omega (arith, a) in
    subst (λ (n : ℕ). slice_get xs n ≡ Some x) b e
get_but {X} (suc r) zero (y ∷ xs) x d e =
    let a = lowered_below (suc r) 0 (omega arith) in
    let b : 0 ≡ lowered (suc r) 0 = omega (arith, a) in
    subst (λ (n : ℕ). slice_get (y ∷ but_place r xs) n ≡ Some x) b e
get_but {X} (suc r) (suc k) (y ∷ xs) x d e =
    subst (λ (n : ℕ). slice_get (y ∷ but_place r xs) n ≡ Some x) (sym (lowered_suc r k))
    (get_but r k xs x (λ z. d (ap (λ (n : ℕ). suc n) z)) e)

pub lowered_less : (r k n : ℕ) → r < n → k < n → k ≢ r → lowered r k + 1 < n
lowered_less r k n a b d = elim (nat_cases r k) [
  | inl l ↦ (let e = lowered_above r k l in omega (arith, e, b))
  | inr l ↦ (let e = lowered_below r k l in omega (arith, e, a, d, l))
]
