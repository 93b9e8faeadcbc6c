-- Slots in order, with others put in, are in order where no two of them have one key.
use Rattle.std.proofs.Common.{◌≡◌, ◌⊎◌, inl, inr, ℕ, ◌<◌, ◌≤◌, Bool, true, false, nat_le, if◌then◌else◌, List, [], ◌∷◌}
use Rattle.std.proofs.Common.{◌++◌, map, refl, arith}
use Rattle.std.proofs.lemmas.Bool.{leb-true, leb-false}
use Rattle.fore_base.specs.Lists.{IsIn, IsDistinct}
use Rattle.fa_core.specs.Rearranged.{RisesFrom, IsRising}
use Rattle.fa_unfold.specs.Slots.{put_in, joined}

module _ {X : Type 0} (key : X → ℕ) where
  keys_put : (k : ℕ) (x : X) (ys : List X) → IsIn k (map key (put_in key x ys)) → (k ≡ key x) ⊎ IsIn k (map key ys)
  keys_put k x [] (inl e) = inl e
  keys_put k x [] (inr i) = inr i
  keys_put k x (y ∷ ys) i = here (nat_le (key x) (key y)) i (keys_put k x ys)
    where
      here : (b : Bool) → IsIn k (map key (if b then x ∷ (y ∷ ys) else y ∷ put_in key x ys))
          → (IsIn k (map key (put_in key x ys)) → (k ≡ key x) ⊎ IsIn k (map key ys))
          → (k ≡ key x) ⊎ IsIn k (key y ∷ map key ys)
      here true (inl e) rec = inl e
      here true (inr j) rec = inr j
      here false (inl e) rec = inr (inl e)
      here false (inr j) rec = elim (rec j) [ inl e ↦ inl e | inr w ↦ inr (inr w) ]

  keys_joined : (k : ℕ) (xs ys : List X) → IsIn k (map key (joined key xs ys)) → IsIn k (map key ys ++ map key xs)
  keys_joined k xs [] i = i
  keys_joined k xs (y ∷ ys) i = elim (keys_put k y (joined key xs ys) i) [
    | inl e ↦ inl e
    | inr j ↦ inr (keys_joined k xs ys j)
  ]

  put_rises_from : (n : ℕ) (x : X) (ys : List X) → n < key x → RisesFrom n (map key ys)
      → (IsIn (key x) (map key ys) → ⊥) → RisesFrom n (map key (put_in key x ys))
  put_rises_from n x [] l h o = (l, tt)
  put_rises_from n x (y ∷ ys) l h o =
      here (nat_le (key x) (key y)) refl (λ k. put_rises_from (key y) x ys k h.1 (λ i. o (inr i)))
    where
      less : nat_le (key x) (key y) ≡ true → key x < key y
      less e =
          let a : key x ≤ key y = leb-true (key x) (key y) e in
          elim (apart (key x) (key y) a) [ inl w ↦ w | inr w ↦ absurd (o (inl w)) ]
        where
          apart : (a b : ℕ) → a ≤ b → (a < b) ⊎ (a ≡ b)
          apart a b l = grind (arith, l)

      here : (b : Bool) → nat_le (key x) (key y) ≡ b
          → (key y < key x → RisesFrom (key y) (map key (put_in key x ys)))
          → RisesFrom n (map key (if b then x ∷ (y ∷ ys) else y ∷ put_in key x ys))
      here true e rec = (l, (less e, h.1))
      here false e rec = (h.0, rec (leb-false (key x) (key y) e))

  put_rises : (x : X) (ys : List X) → IsRising (map key ys) → (IsIn (key x) (map key ys) → ⊥)
      → IsRising (map key (put_in key x ys))
  put_rises x [] h o = tt
  put_rises x (y ∷ ys) h o = here (nat_le (key x) (key y)) refl
    where
      less : (a b : ℕ) → a ≤ b → (a ≡ b → ⊥) → a < b
      less a b l n = elim (apart a b l) [ inl w ↦ w | inr w ↦ absurd (n w) ]
        where
          apart : (a b : ℕ) → a ≤ b → (a < b) ⊎ (a ≡ b)
          apart a b l = grind (arith, l)

      here : (b : Bool) → nat_le (key x) (key y) ≡ b
          → IsRising (map key (if b then x ∷ (y ∷ ys) else y ∷ put_in key x ys))
      here true e = (less (key x) (key y) (leb-true (key x) (key y) e) (λ w. o (inl w)), h)
      here false e = put_rises_from (key y) x ys (leb-false (key x) (key y) e) h (λ i. o (inr i))

  pub joined_rises : (xs ys : List X) → IsRising (map key xs) → IsDistinct (map key ys ++ map key xs)
      → IsRising (map key (joined key xs ys))
  joined_rises xs [] h a = h
  joined_rises xs (y ∷ ys) h a =
      put_rises y (joined key xs ys) (joined_rises xs ys h a.1) (λ i. a.0 (keys_joined (key y) xs ys i))
