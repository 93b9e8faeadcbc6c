-- Laws of lists that are put together by the keys of their items.
use Rattle.std.proofs.Common.{◌≡◌, ℕ, zero, suc, Bool, true, false, nat_le, if◌then◌else◌, List, [], ◌∷◌, ◌++◌}
use Rattle.std.proofs.Common.{refl, sym, ap, subst, ◌∙◌, Some, slice_get}
use Rattle.std.proofs.lemmas.Option.{none-some, same_Some}
use Rattle.fore_base.specs.Lists.{Every, Paired}
use Rattle.fa_core.specs.Rearranged.{Rearranged, keep, chain}
use Rattle.fa_core.proofs.Rearranging.{same, middle}
use Rattle.fa_unfold.specs.Slots.{put_in, joined, without}

module _ {X : Type 0} (key : X → ℕ) where
  put_same : (x : X) (ys : List X) → Rearranged (put_in key x ys) (x ∷ ys)
  put_same x [] = same (x ∷ [])
  put_same x (y ∷ ys) = here (nat_le (key x) (key y)) (put_same x ys)
    where
      here : (b : Bool) → Rearranged (put_in key x ys) (x ∷ ys)
          → Rearranged (if b then x ∷ (y ∷ ys) else y ∷ put_in key x ys) (x ∷ (y ∷ ys))
      here true r = same (x ∷ (y ∷ ys))
      here false r = chain (keep y r) (middle (y ∷ []) x ys)

  pub joined_same : (xs ys : List X) → Rearranged (joined key xs ys) (ys ++ xs)
  joined_same xs [] = same xs
  joined_same xs (y ∷ ys) = chain (put_same y (joined key xs ys)) (keep y (joined_same xs ys))

  put_every : (P : X → Type 0) (x : X) (ys : List X) → P x → Every P ys → Every P (put_in key x ys)
  put_every P x [] p h = (p, tt)
  put_every P x (y ∷ ys) p h = here (nat_le (key x) (key y)) (put_every P x ys p h.1)
    where
      here : (b : Bool) → Every P (put_in key x ys) → Every P (if b then x ∷ (y ∷ ys) else y ∷ put_in key x ys)
      here true r = (p, h)
      here false r = (h.0, r)

  pub joined_every : (P : X → Type 0) (xs ys : List X) → Every P xs → Every P ys → Every P (joined key xs ys)
  joined_every P xs [] h k = h
  joined_every P xs (y ∷ ys) h k = put_every P y (joined key xs ys) k.0 (joined_every P xs ys h k.1)

-- Lists of related items, whose keys are equal.

module _ {X Y : Type 0} (R : X → Y → Type 0) (key : X → ℕ) (other : Y → ℕ)
    (agree : (x : X) (y : Y) → R x y → key x ≡ other y) where
  put_paired : (x : X) (y : Y) (xs : List X) (ys : List Y) → R x y → Paired R xs ys
      → Paired R (put_in key x xs) (put_in other y ys)
  put_paired x y [] [] r h = (r, tt)
  put_paired x y [] (v ∷ ys) r h = absurd h
  put_paired x y (u ∷ xs) [] r h = absurd h
  put_paired x y (u ∷ xs) (v ∷ ys) r h =
      subst (λ (k : ℕ). Paired R (if nat_le (key x) (key u) then x ∷ (u ∷ xs) else u ∷ put_in key x xs)
      (if nat_le k (other v) then y ∷ (v ∷ ys) else v ∷ put_in other y ys)) (agree x y r)
      (subst (λ (k : ℕ). Paired R (if nat_le (key x) (key u) then x ∷ (u ∷ xs) else u ∷ put_in key x xs)
      (if nat_le (key x) k then y ∷ (v ∷ ys) else v ∷ put_in other y ys)) (agree u v h.0)
      (here (nat_le (key x) (key u)) (put_paired x y xs ys r h.1)))
    where
      here : (b : Bool) → Paired R (put_in key x xs) (put_in other y ys)
          → Paired R (if b then x ∷ (u ∷ xs) else u ∷ put_in key x xs)
          (if b then y ∷ (v ∷ ys) else v ∷ put_in other y ys)
      here true w = (r, h)
      here false w = (h.0, w)

  pub joined_paired : (xs us : List X) (ys vs : List Y) → Paired R xs ys → Paired R us vs
      → Paired R (joined key xs us) (joined other ys vs)
  joined_paired xs [] ys [] h k = h
  joined_paired xs [] ys (v ∷ vs) h k = absurd k
  joined_paired xs (u ∷ us) ys [] h k = absurd k
  joined_paired xs (u ∷ us) ys (v ∷ vs) h k =
      put_paired u v (joined key xs us) (joined other ys vs) k.0 (joined_paired xs us ys vs h k.1)

  abbrev TakenOut : X → List X → List Y → Type 0
  TakenOut x xs zs = (y : Y) × (ys : List Y) × (zs ≡ put_in other y ys) × R x y × Paired R xs ys

  put_parts : (x : X) (xs : List X) (zs : List Y) → Paired R (put_in key x xs) zs → TakenOut x xs zs
  put_parts x [] [] h = absurd h
  put_parts x [] (z ∷ []) h = (z, [], refl, h.0, tt)
  put_parts x [] (z ∷ (w ∷ zs)) h = absurd h.1
  put_parts x (u ∷ xs) zs h = here (nat_le (key x) (key u)) refl zs (put_parts x xs) h
    where
      same_place : (y v : Y) (b : Bool) → R x y → R u v → nat_le (key x) (key u) ≡ b → nat_le (other y) (other v) ≡ b
      same_place y v b r s e = rw (sym (agree x y r), sym (agree u v s)) e

      here : (b : Bool) → nat_le (key x) (key u) ≡ b → (zs : List Y)
          → ((ws : List Y) → Paired R (put_in key x xs) ws → TakenOut x xs ws)
          → Paired R (if b then x ∷ (u ∷ xs) else u ∷ put_in key x xs) zs → TakenOut x (u ∷ xs) zs
      here true e [] rec k = absurd k
      here true e (z ∷ []) rec k = absurd k.1
      here true e (z ∷ (w ∷ zs)) rec k =
          let t : nat_le (other z) (other w) ≡ true = same_place z w true k.0 k.1.0 e in
          (z, w ∷ zs, rw t refl, k.0, k.1)
      here false e [] rec k = absurd k
      here false e (z ∷ zs) rec k =
          let m = rec zs k.1 in
          let t : nat_le (other m.0) (other z) ≡ false = same_place m.0 z false m.3 k.0 e in
          (m.0, z ∷ m.1, (rw t (ap (λ (w : List Y). z ∷ w) m.2)), m.3, (k.0, m.4))

  pub joined_apart : (xs us : List X) (zs : List Y) → Paired R (joined key xs us) zs → (ys vs : List Y)
      × (zs ≡ joined other ys vs) × Paired R xs ys × Paired R us vs
  joined_apart xs [] zs h = (zs, [], refl, h, tt)
  joined_apart xs (u ∷ us) zs h =
      let k = put_parts u (joined key xs us) zs h in
      let m = joined_apart xs us k.1 k.4 in
      (m.0, k.0 ∷ m.1, k.2 ∙ ap (put_in other k.0) m.2, m.3, (k.3, m.4))

-- An item taken out, and put back.

-- the items with x at place p
abbrev pub put_at : {X : Type 0} → ℕ → X → List X → List X
put_at zero x xs = x ∷ xs
put_at (suc p) x [] = x ∷ []
put_at (suc p) x (y ∷ xs) = y ∷ put_at p x xs

module _ {X Y : Type 0} (R : X → Y → Type 0) where
  pub without_paired : (p : ℕ) (xs : List X) (ys : List Y) → Paired R xs ys → Paired R (without p xs) (without p ys)
  without_paired p [] [] h = tt
  without_paired p [] (y ∷ ys) h = absurd h
  without_paired p (x ∷ xs) [] h = absurd h
  without_paired zero (x ∷ xs) (y ∷ ys) h = h.1
  without_paired (suc p) (x ∷ xs) (y ∷ ys) h = (h.0, without_paired p xs ys h.1)

  -- what is related to the item at place p
  pub item_paired : (p : ℕ) (xs : List X) (ys : List Y) (x : X) → Paired R xs ys → slice_get xs p ≡ Some x → (y : Y)
      × (slice_get ys p ≡ Some y) × R x y
  item_paired p [] [] x h e = absurd (none-some x e)
  item_paired p [] (y ∷ ys) x h e = absurd h
  item_paired p (x ∷ xs) [] u h e = absurd h
  item_paired zero (x ∷ xs) (y ∷ ys) u h e = (y, refl, subst (λ (z : X). R z y) (same_Some x u e) h.0)
  item_paired (suc p) (x ∷ xs) (y ∷ ys) u h e = item_paired p xs ys u h.1 e

  pub put_back : (p : ℕ) (xs : List X) (ys : List Y) (x : X) (y : Y) → slice_get xs p ≡ Some x → R x y
      → Paired R (without p xs) ys → Paired R xs (put_at p y ys) × (without p (put_at p y ys) ≡ ys)
      × (slice_get (put_at p y ys) p ≡ Some y)
  put_back p [] ys x y e r h = absurd (none-some x e)
  put_back zero (u ∷ xs) ys x y e r h = ((subst (λ (z : X). R z y) (sym (same_Some u x e)) r, h), refl, refl)
  put_back (suc p) (u ∷ xs) [] x y e r h = absurd h
  put_back (suc p) (u ∷ xs) (v ∷ ys) x y e r h =
      let k = put_back p xs ys x y e r h.1 in
      ((h.0, k.0), ap (λ (z : List Y). v ∷ z) k.1, k.2)
