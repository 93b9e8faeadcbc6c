-- Lists of which items are left out, and lists of which each item is related to those behind it.
use Rattle.std.proofs.Common.{◌≡◌, inl, inr, ℕ, zero, suc, ◌<◌, ◌≤◌, List, [], ◌∷◌, ◌++◌, length, reverse, Some, refl}
use Rattle.std.proofs.Common.{ap, subst, arith}
use Rattle.std.specs.List.{slice_get}
use Rattle.std.proofs.lemmas.List.{reverse-append, reverse-reverse}
use Rattle.fore_base.specs.Lists.{IsIn, Every}
use Rattle.fore_base.proofs.ListLemmas.{every_append, every_in, in_from_place}
use Rattle.ta_core.specs.Renumbered.{IsSublist, sub_none, sub_skip, sub_keep}
use Rattle.ta_reduce.specs.inner.Thinned.{EachLater}

-- the place with one more item in front
abbrev behind : (ℕ → ℕ) → ℕ → ℕ
behind f zero = zero
behind f (suc i) = suc (f i)

behind_one : (f : ℕ → ℕ) → ((i j : ℕ) → f i ≡ f j → i ≡ j) → (i j : ℕ) → behind f i ≡ behind f j → i ≡ j
behind_one f g zero zero e = refl
behind_one f g zero (suc j) e = absurd (omega (arith, e))
behind_one f g (suc i) zero e = absurd (omega (arith, e))
behind_one f g (suc i) (suc j) e = ap suc (g i j (omega (arith, e)))

module _ {X : Type 0} where
  pub reverse_cons : (x : X) (xs : List X) → reverse (x ∷ xs) ≡ reverse xs ++ x ∷ []
  reverse_cons x xs = reverse-append (x ∷ []) xs

  -- a sublist is no longer; one that is as long is the list
  pub sub_long : {xs ys : List X} → IsSublist xs ys → length xs ≤ length ys
  sub_long sub_none = omega arith
  sub_long (sub_skip s) = let l = sub_long s in omega (arith, l)
  sub_long (sub_keep s) = let l = sub_long s in omega (arith, l)

  pub sub_same : {xs ys : List X} → IsSublist xs ys → length xs ≡ length ys → xs ≡ ys
  sub_same sub_none e = refl
  sub_same (sub_skip s) e = absurd (let l = sub_long s in omega (arith, l, e))
  sub_same (sub_keep {y = y} s) e = ap (λ (l : List X). y ∷ l) (sub_same s (omega (arith, e)))

  pub sub_in : {xs ys : List X} (x : X) → IsSublist xs ys → IsIn x xs → IsIn x ys
  sub_in x sub_none i = i
  sub_in x (sub_skip s) i = inr (sub_in x s i)
  sub_in x (sub_keep s) (inl e) = inl e
  sub_in x (sub_keep s) (inr i) = inr (sub_in x s i)

  -- what the shorter list has at a place, the longer one has at that to which it goes
  behind_there : (y : X) (us vs : List X) (f : ℕ → ℕ)
      → ((i : ℕ) (x : X) → slice_get us i ≡ Some x → slice_get vs (f i) ≡ Some x) → (i : ℕ) (x : X)
      → slice_get (y ∷ us) i ≡ Some x → slice_get (y ∷ vs) (behind f i) ≡ Some x
  behind_there y us vs f g zero x e = e
  behind_there y us vs f g (suc i) x e = g i x e

  -- each item stands in the longer list too, at a place of its own
  pub sub_places : {xs ys : List X} → IsSublist xs ys → (to : ℕ → ℕ)
      × ((i : ℕ) (x : X) → slice_get xs i ≡ Some x → slice_get ys (to i) ≡ Some x)
      × ((i j : ℕ) → to i ≡ to j → i ≡ j)
  sub_places sub_none = (λ i. i, λ i x e. e, λ i j e. e)
  sub_places (sub_skip s) = let w = sub_places s in
      (λ i. suc (w.0 i), λ i x e. w.1 i x e, λ i j e. w.2 i j (omega (arith, e)))
  sub_places (sub_keep {y = y} {xs = us} {ys = vs} s) = let w = sub_places s in
      (behind w.0, behind_there y us vs w.0 w.1, behind_one w.0 w.2)

  pub sub_through : {ys zs : List X} (xs : List X) → IsSublist xs ys → IsSublist ys zs → IsSublist xs zs
  sub_through xs s sub_none = s
  sub_through xs s (sub_skip t) = sub_skip (sub_through xs s t)
  sub_through xs (sub_skip s) (sub_keep t) = sub_skip (sub_through xs s t)
  sub_through (x ∷ xs) (sub_keep s) (sub_keep t) = sub_keep (sub_through xs s t)

  -- one item more at the end, left out or kept
  pub sub_drop : {xs ys : List X} (y : X) → IsSublist xs ys → IsSublist xs (ys ++ y ∷ [])
  sub_drop y sub_none = sub_skip sub_none
  sub_drop y (sub_skip s) = sub_skip (sub_drop y s)
  sub_drop y (sub_keep s) = sub_keep (sub_drop y s)

  pub sub_push : {xs ys : List X} (y : X) → IsSublist xs ys → IsSublist (xs ++ y ∷ []) (ys ++ y ∷ [])
  sub_push y sub_none = sub_keep sub_none
  sub_push y (sub_skip s) = sub_skip (sub_push y s)
  sub_push y (sub_keep s) = sub_keep (sub_push y s)

  pub sub_reverse : {xs ys : List X} → IsSublist xs ys → IsSublist (reverse xs) (reverse ys)
  sub_reverse sub_none = sub_none
  sub_reverse (sub_skip {y = y} {ys = ys} s) = rw (reverse_cons y ys) (sub_drop y (sub_reverse s))
  sub_reverse (sub_keep {y = y} {xs = xs} {ys = ys} s) =
      rw (reverse_cons y xs, reverse_cons y ys) (sub_push y (sub_reverse s))

  -- sublists of the turned list, turned
  pub sub_turned : (xs ys : List X) → IsSublist xs (reverse ys) → IsSublist (reverse xs) ys
  sub_turned xs ys s = subst (IsSublist (reverse xs)) (reverse-reverse ys) (sub_reverse s)

module _ {X : Type 0} (R : X → X → Type 0) where
  pub later_push : (xs : List X) (x : X) → EachLater R xs → Every (λ y. R y x) xs → EachLater R (xs ++ x ∷ [])
  later_push [] x h k = (tt, tt)
  later_push (y ∷ ys) x h k = (every_append (R y) ys (x ∷ []) h.0 (k.0, tt), later_push ys x h.1 k.1)

  pub later_sub : {xs ys : List X} → IsSublist xs ys → EachLater R ys → EachLater R xs
  later_sub sub_none h = tt
  later_sub (sub_skip s) h = later_sub s h.1
  later_sub (sub_keep {y = y} s) h = (every_sub (R y) s h.0, later_sub s h.1)
    where
      every_sub : (P : X → Type 0) {xs ys : List X} → IsSublist xs ys → Every P ys → Every P xs
      every_sub P sub_none k = tt
      every_sub P (sub_skip t) k = every_sub P t k.1
      every_sub P (sub_keep t) k = (k.0, every_sub P t k.1)

  -- of two places the lower one's item is related to the other's
  pub later_at : (xs : List X) (i j : ℕ) (x y : X) → EachLater R xs → i < j → slice_get xs i ≡ Some x
      → slice_get xs j ≡ Some y → R x y
  later_at [] i j x y h l e f = absurd cc
  later_at (z ∷ zs) i zero x y h l e f = absurd (omega (arith, l))
  later_at (z ∷ zs) zero (suc j) x y h l e f = let d : z ≡ x = cc in
      subst (λ (w : X). R w y) d (every_in (R z) zs y h.0 (in_from_place zs j y f))
  later_at (z ∷ zs) (suc i) (suc j) x y h l e f = later_at zs i j x y h.1 (omega (arith, l)) e f

module _ {X : Type 0} (R S : X → X → Type 0) (turn : (x y : X) → R x y → S y x) where
  every_turned : (x : X) (xs : List X) → Every (R x) xs → Every (λ y. S y x) (reverse xs)
  every_turned x [] h = tt
  every_turned x (y ∷ ys) h =
      rw (reverse_cons y ys)
      (every_append (λ z. S z x) (reverse ys) (y ∷ []) (every_turned x ys h.1) (turn x y h.0, tt))

  -- in the turned list it is the other way round
  pub later_turned : (xs : List X) → EachLater R xs → EachLater S (reverse xs)
  later_turned [] h = tt
  later_turned (x ∷ xs) h =
      rw (reverse_cons x xs) (later_push S (reverse xs) x (later_turned xs h.1) (every_turned x xs h.0))
