-- Partners stand in the same place of their lists.
use Rattle.std.proofs.Common.{◌≡◌, ℕ, zero, suc, List, [], ◌∷◌, Some, slice_get, refl, subst}
use Rattle.std.proofs.lemmas.Option.{none-some, same_Some}
use Rattle.fore_base.specs.Lists.{Paired}

module _ {X Y : Type 0} (R : X → Y → Type 0) where
  -- the partner in the second list
  pub paired_at : (xs : List X) (ys : List Y) (i : ℕ) (x : X) → Paired R xs ys → slice_get xs i ≡ Some x
      → (y : Y) × (slice_get ys i ≡ Some y) × R x y
  paired_at [] ys i x p e = absurd (none-some x e)
  paired_at (z ∷ xs) [] i x p e = absurd p
  paired_at (z ∷ xs) (y ∷ ys) zero x p e = (y, refl, subst (λ (v : X). R v y) (same_Some z x e) p.0)
  paired_at (z ∷ xs) (y ∷ ys) (suc i) x p e = paired_at xs ys i x p.1 e

  -- the partner in the first list
  pub paired_back : (xs : List X) (ys : List Y) (i : ℕ) (y : Y) → Paired R xs ys → slice_get ys i ≡ Some y
      → (x : X) × (slice_get xs i ≡ Some x) × R x y
  paired_back xs [] i y p e = absurd (none-some y e)
  paired_back [] (z ∷ ys) i y p e = absurd p
  paired_back (x ∷ xs) (z ∷ ys) zero y p e = (x, refl, subst (R x) (same_Some z y e) p.0)
  paired_back (x ∷ xs) (z ∷ ys) (suc i) y p e = paired_back xs ys i y p.1 e
