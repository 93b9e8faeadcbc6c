-- Items at places of lists, and lists paired place by place.
use Rattle.std.proofs.Common.{◌≡◌, ◌⊎◌, inl, inr, ℕ, zero, suc, ◌+◌, ◌<◌, List, [], ◌∷◌, ◌++◌, length, get_or}
use Rattle.std.proofs.Common.{slice_get, Some, refl, ap, subst, ◌∙◌, arith}
use Rattle.std.proofs.lemmas.Option.{none-some, same_Some, slice_get_within, get_or_from_slice_get}
use Rattle.fore_base.specs.Lists.{IsIn, Every, Paired}
use Rattle.fore_base.proofs.ListLemmas.{in_append}

module _ {X : Type 0} where
  pub item_at : (xs : List X) (i : ℕ) → i < length xs → (x : X) × (slice_get xs i ≡ Some x)
  item_at [] i l = absurd (omega (arith, l))
  item_at (y ∷ xs) zero l = (y, refl)
  item_at (y ∷ xs) (suc i) l = item_at xs i (omega (arith, l))

  -- the item that was read at a place is the one there
  pub read_item : (xs : List X) (i : ℕ) (x y : X) → x ≡ get_or xs i x → slice_get xs i ≡ Some y → x ≡ y
  read_item xs i x y e h = e ∙ get_or_from_slice_get xs i y x h

  pub get_left : (xs ys : List X) (i : ℕ) (x : X) → slice_get xs i ≡ Some x → slice_get (xs ++ ys) i ≡ Some x
  get_left [] ys i x e = absurd (none-some x e)
  get_left (z ∷ xs) ys zero x e = e
  get_left (z ∷ xs) ys (suc i) x e = get_left xs ys i x e

  -- the item behind the first ones
  pub get_middle : (xs : List X) (x : X) (ys : List X) → slice_get (xs ++ x ∷ ys) (length xs) ≡ Some x
  get_middle [] x ys = refl
  get_middle (z ∷ xs) x ys = get_middle xs x ys

  -- the item at a place of the joined list stands in the first one, or in the second one behind it
  pub get_either : (xs ys : List X) (i : ℕ) (x : X) → slice_get (xs ++ ys) i ≡ Some x → (slice_get xs i ≡ Some x)
      ⊎ ((j : ℕ) × (i ≡ length xs + j) × (slice_get ys j ≡ Some x))
  get_either [] ys i x e = inr (i, omega arith, e)
  get_either (z ∷ xs) ys zero x e = inl e
  get_either (z ∷ xs) ys (suc i) x e = elim (get_either xs ys i x e) [
    | inl h ↦ inl h
    | inr h ↦ (let k = h.1 in inr (h.0, omega (arith, k), h.2))
  ]

  -- no item with P is one of a list with one more item without
  pub none_push : (P : X → Type 0) (xs : List X) (x : X) → ((y : X) × IsIn y xs × P y → ⊥) → (P x → ⊥) → (y : X)
      × IsIn y (xs ++ x ∷ []) × P y → ⊥
  none_push P xs x f g h = elim (in_append h.0 xs (x ∷ []) h.1) [
    | inl i ↦ f (h.0, i, h.2)
    | inr (inl e) ↦ g (subst P e h.2)
    | inr (inr i) ↦ absurd i
  ]

  pub every_pop : (P : X → Type 0) (xs : List X) (x : X) → Every P (xs ++ x ∷ []) → Every P xs × P x
  every_pop P [] x h = (tt, h.0)
  every_pop P (y ∷ xs) x h = let k = every_pop P xs x h.1 in ((h.0, k.0), k.1)

module _ {X Y : Type 0} (R : X → Y → Type 0) where
  -- the partner of a last item is the last one
  pub paired_last : (xs : List X) (x : X) (ys : List Y) → Paired R (xs ++ x ∷ []) ys → (zs : List Y) × (y : Y)
      × (ys ≡ zs ++ y ∷ []) × Paired R xs zs × R x y
  paired_last [] x [] h = absurd h
  paired_last [] x (y ∷ []) h = ([], y, refl, tt, h.0)
  paired_last [] x (y ∷ z ∷ ys) h = absurd h.1
  paired_last (w ∷ xs) x [] h = absurd h
  paired_last (w ∷ xs) x (y ∷ ys) h =
      let p = paired_last xs x ys h.1 in
      (y ∷ p.0, p.1, ap (λ (zs : List Y). y ∷ zs) p.2, (h.0, p.3), p.4)

  -- the item at a place has a partner at the same place
  pub paired_get : (xs : List X) (ys : List Y) (i : ℕ) (x : X) → Paired R xs ys → slice_get xs i ≡ Some x → (y : Y)
      × (slice_get ys i ≡ Some y) × R x y
  paired_get [] ys i x h e = absurd (none-some x e)
  paired_get (w ∷ xs) [] i x h e = absurd h
  paired_get (w ∷ xs) (y ∷ ys) zero x h e = (y, refl, subst (λ (v : X). R v y) (same_Some w x e) h.0)
  paired_get (w ∷ xs) (y ∷ ys) (suc i) x h e = paired_get xs ys i x h.1 e

  -- lists paired part by part
  pub paired_parts : (xs : List X) (ys : List Y) (us : List X) (vs : List Y) → length xs ≡ length ys
      → Paired R (xs ++ us) (ys ++ vs) → Paired R xs ys × Paired R us vs
  paired_parts [] [] us vs e h = (tt, h)
  paired_parts [] (y ∷ ys) us vs e h = absurd (omega (arith, e))
  paired_parts (x ∷ xs) [] us vs e h = absurd (omega (arith, e))
  paired_parts (x ∷ xs) (y ∷ ys) us vs e h = let k = paired_parts xs ys us vs (omega (arith, e)) h.1 in
      ((h.0, k.0), k.1)

  -- where each item with P has a partner
  pub paired_for : (P : X → Type 0) → ((x : X) → P x → (y : Y) × R x y) → (xs : List X) → Every P xs → (ys : List Y)
      × Paired R xs ys
  paired_for P f [] h = ([], tt)
  paired_for P f (x ∷ xs) h = let y = f x h.0 in let w = paired_for P f xs h.1 in (y.0 ∷ w.0, (y.1, w.1))

-- places at which pairs stand are places of the list
pub places_low : {X : Type 0} (found : List X) (places : List ℕ) (items : List X)
    → Paired (λ i x. slice_get found i ≡ Some x) places items → Every (λ i. i < length found) places
places_low found [] items h = tt
places_low found (i ∷ is) [] h = absurd h
places_low found (i ∷ is) (x ∷ items) h = (slice_get_within found i x h.0, places_low found is items h.1)

pub below_more : (k n : ℕ) → k < n + 1 → (k < n) ⊎ (k ≡ n)
below_more k n l = grind (arith, l)
