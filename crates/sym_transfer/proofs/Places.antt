-- Places of lists that are set, read and mapped.
use Rattle.std.proofs.Common.{◌≡◌, ℕ, zero, suc, List, [], ◌∷◌, length, map, slice_get, slice_set, slice_index_or, Some}
use Rattle.std.proofs.Common.{refl, sym, ap}
use Rattle.std.proofs.lemmas.Option.{same_Some}
use Rattle.fore_base.specs.Lists.{Every}

module _ {X : Type 0} where
  pub set_twice : (xs : List X) (k : ℕ) (x y : X) → slice_set (slice_set xs k x) k y ≡ slice_set xs k y
  set_twice [] k x y = refl
  set_twice (z ∷ xs) zero x y = refl
  set_twice (z ∷ xs) (suc k) x y = ap (λ (w : List X). z ∷ w) (set_twice xs k x y)

  pub set_same : (xs : List X) (k : ℕ) (x : X) → slice_get xs k ≡ Some x → slice_set xs k x ≡ xs
  set_same [] k x e = refl
  set_same (z ∷ xs) zero x e = ap (λ (w : X). w ∷ xs) (sym (same_Some z x e))
  set_same (z ∷ xs) (suc k) x e = ap (λ (w : List X). z ∷ w) (set_same xs k x e)

  pub length_set : (xs : List X) (k : ℕ) (x : X) → length (slice_set xs k x) ≡ length xs
  length_set [] k x = refl
  length_set (z ∷ xs) zero x = refl
  length_set (z ∷ xs) (suc k) x = ap (λ (n : ℕ). suc n) (length_set xs k x)

  pub every_set : (P : X → Type 0) (xs : List X) (k : ℕ) (x : X) → Every P xs → P x → Every P (slice_set xs k x)
  every_set P [] k x h p = h
  every_set P (y ∷ xs) zero x (g, h) p = (p, h)
  every_set P (y ∷ xs) (suc k) x (g, h) p = (g, every_set P xs k x h p)

module _ {X Y : Type 0} (g : X → Y) where
  pub get_mapped : (xs : List X) (k : ℕ) (d : X) → slice_index_or (map g xs) k (g d) ≡ g (slice_index_or xs k d)
  get_mapped [] zero d = refl
  get_mapped [] (suc k) d = refl
  get_mapped (x ∷ xs) zero d = refl
  get_mapped (x ∷ xs) (suc k) d = get_mapped xs k d

  pub set_mapped : (xs : List X) (k : ℕ) (x : X) → slice_set (map g xs) k (g x) ≡ map g (slice_set xs k x)
  set_mapped [] k x = refl
  set_mapped (y ∷ xs) zero x = refl
  set_mapped (y ∷ xs) (suc k) x = ap (λ (ys : List Y). g y ∷ ys) (set_mapped xs k x)
