-- The longest front whose bytes pass a test.
use Rattle.std.proofs.Common.{◌≡◌, ℕ, zero, suc, ◌+◌, ◌<◌, ◌≤◌, Bool, true, false, cond, List, [], ◌∷◌, length, take}
use Rattle.std.proofs.Common.{refl, arith, one-add}
use Rattle.std.specs.List.{prefix_len}
use Rattle.fore_base.specs.Lists.{Every}

abbrev Passes : (ℕ → Bool) → List ℕ → Type 0
Passes p xs = Every (λ c. p c ≡ true) xs

-- the bytes of the front pass
pub front_passes : (p : ℕ → Bool) (xs : List ℕ) → Every (λ c. p c ≡ true) (take (prefix_len p xs) xs)
front_passes p [] = tt
front_passes p (x ∷ xs) =
    let ih = front_passes p xs in
    let split : (v : Bool) → p x ≡ v → Passes p (take (cond v (1 + prefix_len p xs) 0) (x ∷ xs)) =
    λ v. elim v as (λ v. p x ≡ v → Passes p (take (cond v (1 + prefix_len p xs) 0) (x ∷ xs)))
    [ true ↦ (λ e. rw one-add (e, ih)) | false ↦ (λ e. tt) ] in
    split (p x) refl

-- and no longer front does
pub longer_fails : (p : ℕ → Bool) (xs : List ℕ) (m : ℕ) → prefix_len p xs < m → m ≤ length xs
    → Every (λ c. p c ≡ true) (take m xs) → ⊥
longer_fails p [] m h k e = omega arith
longer_fails p (x ∷ xs) zero h k e = omega arith
longer_fails p (x ∷ xs) (suc m) h k e =
    let first : p x ≡ true = e.0 in
    let long : 1 + prefix_len p xs < suc m = rw first at h in
    longer_fails p xs m (omega arith) (omega arith) e.1
