-- Lists that are related in all places but at most one: by the places in which they differ.
use Rattle.std.proofs.Common.{◌≡◌, ◌≢◌, ◌↔◌, ◌⊎◌, inl, inr, ℕ, zero, suc, ◌<◌, ◌+◌, Bool, true, false, true≢false}
use Rattle.std.proofs.Common.{length, List, [], ◌∷◌, refl, sym, ap, subst, ◌∙◌, slice_get, Some, IsTrue, arith}
use Rattle.std.proofs.lemmas.Option.{none-some, same_Some}
use Rattle.fore_base.specs.Lists.{Paired, PairedBut}
use Rattle.fa_merge.proofs.MergedAnywhere.{nat_cases}
use Rattle.fa_join.specs.Joinable.{PairedButOne}
use Rattle.fa_join.specs.declared.comparing.Apart.{Apart}
use Rattle.fa_join.specs.declared.comparing.Apart.TheVariants.{Nowhere, At, More}
use Rattle.fa_join.specs.inner.Apart.{SameAt, DifferAt, IsApart, apart_with}

module _ {X Y : Type 0} (R : X → Y → Type 0) where
  -- related lists have related items in each place
  pub paired_there : (xs : List X) (ys : List Y) (i : ℕ) (x : X) (y : Y) → Paired R xs ys → slice_get xs i ≡ Some x
      → slice_get ys i ≡ Some y → R x y
  paired_there [] ys i x y h e f = absurd (none-some x e)
  paired_there (v ∷ xs) [] i x y h e f = absurd h
  paired_there (v ∷ xs) (w ∷ ys) zero x y h e f =
      subst (λ (z : X). R z y) (same_Some v x e) (subst (λ (z : Y). R v z) (same_Some w y f) h.0)
  paired_there (v ∷ xs) (w ∷ ys) (suc i) x y h e f = paired_there xs ys i x y h.1 e f

  pub same_paired : (xs : List X) (ys : List Y) → length xs ≡ length ys → ((i : ℕ) → i < length xs → SameAt R xs ys i)
      → Paired R xs ys
  same_paired [] [] l h = tt
  same_paired [] (y ∷ ys) l h = absurd (let k : 0 ≡ suc (length ys) = l in omega (arith, k))
  same_paired (x ∷ xs) [] l h = absurd (let k : suc (length xs) ≡ 0 = l in omega (arith, k))
  same_paired (x ∷ xs) (y ∷ ys) l h = (
    h 0 (omega arith) x y refl refl,
    same_paired xs ys (let k : suc (length xs) ≡ suc (length ys) = l in omega (arith, k))
        (λ i m. h (suc i) (omega (arith, m))),
  )

  -- where the items at one place alone differ
  pub same_but : (xs : List X) (ys : List Y) (k : ℕ) (x : X) (y : Y) → length xs ≡ length ys → slice_get xs k ≡ Some x
      → slice_get ys k ≡ Some y → ((i : ℕ) → i < length xs → i ≢ k → SameAt R xs ys i) → PairedBut R k x y xs ys
  same_but [] ys k x y l e f h = absurd (none-some x e)
  same_but (v ∷ xs) [] k x y l e f h = absurd (none-some y f)
  same_but (v ∷ xs) (w ∷ ys) zero x y l e f h = (
    same_Some v x e,
    same_Some w y f,
    same_paired xs ys (let m : suc (length xs) ≡ suc (length ys) = l in omega (arith, m))
        (λ i m. h (suc i) (omega (arith, m)) (λ z. (let q : suc i ≡ 0 = z in omega (arith, q)))),
  )
  same_but (v ∷ xs) (w ∷ ys) (suc k) x y l e f h = (
    h 0 (omega arith) (λ z. (let q : 0 ≡ suc k = z in omega (arith, q))) v w refl refl,
    same_but xs ys k x y (let m : suc (length xs) ≡ suc (length ys) = l in omega (arith, m)) e f
        (λ i m d. h (suc i) (omega (arith, m)) (λ z. d (let q : suc i ≡ suc k = z in omega (arith, q)))),
  )

  -- the items at one more place
  pub apart_step : (xs : List X) (ys : List Y) (n : ℕ) (x : X) (y : Y) (found : Apart) (same : Bool)
      → slice_get xs n ≡ Some x → slice_get ys n ≡ Some y → (IsTrue same ↔ R x y) → IsApart R xs ys n found
      → IsApart R xs ys (n + 1) (apart_with found n same)
  apart_step xs ys n x y found same e f d h = here same refl found h
    where
      at_last : (same ≡ true) → SameAt R xs ys n
      at_last b v w g k = subst (λ (z : X). R z w) (same_Some x v (sym e ∙ g))
          (subst (λ (z : Y). R x z) (same_Some y w (sym f ∙ k)) (d.0 b))

      up_to : (i : ℕ) → i < n + 1 → (i < n → SameAt R xs ys i) → SameAt R xs ys n → SameAt R xs ys i
      up_to i l lower last = elim (nat_cases i n) [
        | inl m ↦ lower m
        | inr m ↦ (let q : i ≡ n = omega (arith, l, m) in subst (λ (j : ℕ). SameAt R xs ys j) (sym q) last)
      ]

      below : (i : ℕ) → i < n + 1 → i ≢ n → i < n
      below i l q = elim (nat_cases i n) [
        | inl m ↦ m
        | inr m ↦ absurd (q (omega (arith, l, m)))
      ]

      differs : (same ≡ false) → DifferAt R xs ys n
      differs b = (x, y, e, f, λ r. true≢false (sym (d.1 r) ∙ b))

      here : (b : Bool) → same ≡ b → (z : Apart) → IsApart R xs ys n z → IsApart R xs ys (n + 1) (apart_with z n b)
      here true b Nowhere k = λ i l. up_to i l (k i) (at_last b)
      here true b (At j) k = (let m = k.0 in omega (arith, m), k.1, λ i l q. up_to i l (λ m. k.2 i m q) (at_last b))
      here true b More k = k
      here false b Nowhere k = (omega arith, differs b, λ i l q. k i (below i l q))
      here false b (At j) k = (j, n, (λ q. (let m = k.0 in omega (arith, m, q))), k.1, differs b)
      here false b More k = k

  -- where there are more than one, no further place has a bearing on it
  pub apart_more : (xs : List X) (ys : List Y) (n m : ℕ) (found : Apart) → found ≡ More → IsApart R xs ys n found
      → IsApart R xs ys m found
  apart_more xs ys n m found e h =
      subst (λ (z : Apart). IsApart R xs ys m z) (sym e) (subst (λ (z : Apart). IsApart R xs ys n z) e h)

  module _ (S : X → Y → Type 0) where
    pub paired_one : (xs : List X) (ys : List Y) → Paired R xs ys → PairedButOne R S xs ys
    paired_one [] [] h = tt
    paired_one [] (y ∷ ys) h = absurd h
    paired_one (x ∷ xs) [] h = absurd h
    paired_one (x ∷ xs) (y ∷ ys) h = inl (h.0, paired_one xs ys h.1)

    pub but_one : (i : ℕ) (xs : List X) (ys : List Y) (x : X) (y : Y) → PairedBut R i x y xs ys → S x y
        → PairedButOne R S xs ys
    but_one i [] ys x y h s = absurd h
    but_one i (v ∷ xs) [] x y h s = absurd h
    but_one zero (v ∷ xs) (w ∷ ys) x y h s =
        inr (subst (λ (z : X). S z w) (sym h.0) (subst (λ (z : Y). S x z) (sym h.1) s), h.2)
    but_one (suc i) (v ∷ xs) (w ∷ ys) x y h s = inl (h.0, but_one i xs ys x y h.1 s)

    -- there is one place, or none
    pub one_cases : (xs : List X) (ys : List Y) → PairedButOne R S xs ys → Paired R xs ys
        ⊎ ((i : ℕ) × (x : X) × (y : Y) × PairedBut R i x y xs ys × S x y)
    one_cases [] [] h = inl tt
    one_cases [] (y ∷ ys) h = absurd h
    one_cases (x ∷ xs) [] h = absurd h
    one_cases (x ∷ xs) (y ∷ ys) (inl h) = elim (one_cases xs ys h.1) [
      | inl k ↦ inl (h.0, k)
      | inr k ↦ inr (suc k.0, k.1, k.2, (h.0, k.3), k.4)
    ]
    one_cases (x ∷ xs) (y ∷ ys) (inr h) = inr (zero, x, y, (refl, refl, h.1), h.0)

    -- it is where the items differ
    pub one_there : (xs : List X) (ys : List Y) (i : ℕ) (x : X) (y : Y) → PairedButOne R S xs ys
        → slice_get xs i ≡ Some x → slice_get ys i ≡ Some y → (R x y → ⊥) → S x y
    one_there [] ys i x y h e f n = absurd (none-some x e)
    one_there (v ∷ xs) [] i x y h e f n = absurd h
    one_there (v ∷ xs) (w ∷ ys) zero x y (inl h) e f n =
        absurd (n (subst (λ (z : X). R z y) (same_Some v x e) (subst (λ (z : Y). R v z) (same_Some w y f) h.0)))
    one_there (v ∷ xs) (w ∷ ys) zero x y (inr h) e f n =
        subst (λ (z : X). S z y) (same_Some v x e) (subst (λ (z : Y). S v z) (same_Some w y f) h.0)
    one_there (v ∷ xs) (w ∷ ys) (suc i) x y (inl h) e f n = one_there xs ys i x y h.1 e f n
    one_there (v ∷ xs) (w ∷ ys) (suc i) x y (inr h) e f n = absurd (n (paired_there xs ys i x y h.1 e f))

    -- the items differ in one place at most
    pub never_two : (xs : List X) (ys : List Y) (i k : ℕ) → PairedButOne R S xs ys → DifferAt R xs ys i
        → DifferAt R xs ys k → i ≢ k → ⊥
    never_two [] ys i k h d f n = none-some d.0 d.2
    never_two (v ∷ xs) [] i k h d f n = h
    never_two (v ∷ xs) (w ∷ ys) zero zero h d f n = n refl
    never_two (v ∷ xs) (w ∷ ys) zero (suc k) (inl h) d f n =
        d.4 (subst (λ (z : X). R z d.1) (same_Some v d.0 d.2) (subst (λ (z : Y). R v z) (same_Some w d.1 d.3) h.0))
    never_two (v ∷ xs) (w ∷ ys) (suc i) zero (inl h) d f n =
        f.4 (subst (λ (z : X). R z f.1) (same_Some v f.0 f.2) (subst (λ (z : Y). R v z) (same_Some w f.1 f.3) h.0))
    never_two (v ∷ xs) (w ∷ ys) zero (suc k) (inr h) d f n = f.4 (paired_there xs ys k f.0 f.1 h.1 f.2 f.3)
    never_two (v ∷ xs) (w ∷ ys) (suc i) k (inr h) d f n = d.4 (paired_there xs ys i d.0 d.1 h.1 d.2 d.3)
    never_two (v ∷ xs) (w ∷ ys) (suc i) (suc k) (inl h) d f n =
        never_two xs ys i k h.1 (d.0, d.1, d.2, d.3, d.4) (f.0, f.1, f.2, f.3, f.4) (λ e. n (ap (λ m. suc m) e))

-- the other way round
pub paired_turned : {X Y : Type 0} (R : X → Y → Type 0) (S : Y → X → Type 0) → ((x : X) (y : Y) → R x y → S y x)
    → (xs : List X) (ys : List Y) → Paired R xs ys → Paired S ys xs
paired_turned R S f [] [] h = tt
paired_turned R S f [] (y ∷ ys) h = absurd h
paired_turned R S f (x ∷ xs) [] h = absurd h
paired_turned R S f (x ∷ xs) (y ∷ ys) h = (f x y h.0, paired_turned R S f xs ys h.1)

pub one_turned : {X Y : Type 0} (R : X → Y → Type 0) (S : Y → X → Type 0) (P : X → Y → Type 0) (Q : Y → X → Type 0)
    → ((x : X) (y : Y) → R x y → S y x) → ((x : X) (y : Y) → P x y → Q y x) → (xs : List X) (ys : List Y)
    → PairedButOne R P xs ys → PairedButOne S Q ys xs
one_turned R S P Q f g [] [] h = tt
one_turned R S P Q f g [] (y ∷ ys) h = absurd h
one_turned R S P Q f g (x ∷ xs) [] h = absurd h
one_turned R S P Q f g (x ∷ xs) (y ∷ ys) (inl h) = inl (f x y h.0, one_turned R S P Q f g xs ys h.1)
one_turned R S P Q f g (x ∷ xs) (y ∷ ys) (inr h) = inr (g x y h.0, paired_turned R S f xs ys h.1)
