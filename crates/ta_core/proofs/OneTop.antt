-- Whether one rule stands at the top, by counting rules.
use Rattle.std.proofs.Common.{◌≡◌, ◌≢◌, ◌↔◌, ℕ, zero, suc, ◌+◌, Bool, true, false, true≢false, nat_eq, if◌then◌else◌}
use Rattle.std.proofs.Common.{List, [], ◌∷◌, refl, sym, ap, subst, ◌∙◌, slice_get, slice_index_or, length, Some, arith}
use Rattle.std.proofs.lemmas.Bool.{eqb-true, eq-eqb}
use Rattle.std.proofs.lemmas.Option.{none-some, same_Some}
use Rattle.ta_core.specs.Auto.{Automaton}
use Rattle.ta_core.specs.Single.{HasOneTop}
use Rattle.ta_core.specs.declared.auto.Rule.{Rule}
use Rattle.ta_core.specs.inner.Counted.{rules_at}

not_at : (q : ℕ) (x : Rule) → nat_eq x.state q ≡ false → x.state ≢ q
not_at q x e s = true≢false (sym (eq-eqb x.state q s) ∙ e)

-- no rule of the list is at the state
none_at : (q : ℕ) (xs : List Rule) → rules_at q xs ≡ 0 → (i : ℕ) (x : Rule) → slice_get xs i ≡ Some x → x.state ≡ q → ⊥
none_at q [] h i x e s = none-some x e
none_at q (y ∷ xs) h i x e s = here (nat_eq y.state q) refl h i e (none_at q xs)
  where
    here : (b : Bool) → nat_eq y.state q ≡ b → (if b then rules_at q xs + 1 else rules_at q xs) ≡ 0 → (i : ℕ)
        → slice_get (y ∷ xs) i ≡ Some x
        → (rules_at q xs ≡ 0 → (i : ℕ) (x : Rule) → slice_get xs i ≡ Some x → x.state ≡ q → ⊥) → ⊥
    here true w h i e later = omega (arith, h)
    here false w h zero e later = not_at q y w (ap (λ (z : Rule). z.state) (same_Some y x e) ∙ s)
    here false w h (suc i) e later = later h i x e s

at_none : (q : ℕ) (xs : List Rule) → ((i : ℕ) (x : Rule) → slice_get xs i ≡ Some x → x.state ≡ q → ⊥)
    → rules_at q xs ≡ 0
at_none q [] h = refl
at_none q (y ∷ xs) h = here (nat_eq y.state q) refl (at_none q xs (λ i x e s. h (suc i) x e s))
  where
    here : (b : Bool) → nat_eq y.state q ≡ b → rules_at q xs ≡ 0 → (if b then rules_at q xs + 1 else rules_at q xs) ≡ 0
    here true w k = absurd (h 0 y refl (eqb-true y.state q w))
    here false w k = k

-- one rule of the list is at the state
record IsOneAt (q : ℕ) (xs : List Rule) : Type 0 where
  place : ℕ
  rule : Rule
  there : slice_get xs place ≡ Some rule
  top : rule.state ≡ q
  only : (i : ℕ) (x : Rule) → slice_get xs i ≡ Some x → x.state ≡ q → i ≡ place

one_at : (q : ℕ) (xs : List Rule) → rules_at q xs ≡ 1 → IsOneAt q xs
one_at q [] h = absurd (omega (arith, h))
one_at q (y ∷ xs) h = here (nat_eq y.state q) refl h (one_at q xs)
  where
    later : nat_eq y.state q ≡ false → IsOneAt q xs → IsOneAt q (y ∷ xs)
    later w k = record { place = suc k.place; rule = k.rule; there = k.there; top = k.top; only = only }
      where
        only : (i : ℕ) (x : Rule) → slice_get (y ∷ xs) i ≡ Some x → x.state ≡ q → i ≡ suc k.place
        only zero x e s = absurd (not_at q y w (ap (λ (z : Rule). z.state) (same_Some y x e) ∙ s))
        only (suc i) x e s = ap (λ n. suc n) (k.only i x e s)

    first : nat_eq y.state q ≡ true → rules_at q xs ≡ 0 → IsOneAt q (y ∷ xs)
    first w k = record { place = 0; rule = y; there = refl; top = eqb-true y.state q w; only = only }
      where
        only : (i : ℕ) (x : Rule) → slice_get (y ∷ xs) i ≡ Some x → x.state ≡ q → i ≡ 0
        only zero x e s = refl
        only (suc i) x e s = absurd (none_at q xs k i x e s)

    here : (b : Bool) → nat_eq y.state q ≡ b → (if b then rules_at q xs + 1 else rules_at q xs) ≡ 1
        → (rules_at q xs ≡ 1 → IsOneAt q xs) → IsOneAt q (y ∷ xs)
    here true w h k = first w (omega (arith, h))
    here false w h k = later w (k h)

at_one : (q : ℕ) (xs : List Rule) → IsOneAt q xs → rules_at q xs ≡ 1
at_one q [] k = absurd (none-some k.rule k.there)
at_one q (y ∷ xs) k = here (nat_eq y.state q) refl (at_one q xs)
  where
    none : nat_eq y.state q ≡ true → (i : ℕ) (x : Rule) → slice_get xs i ≡ Some x → x.state ≡ q → ⊥
    none w i x e s =
        let a : 0 ≡ k.place = k.only 0 y refl (eqb-true y.state q w) in
        let b : suc i ≡ k.place = k.only (suc i) x e s in
        omega (arith, a, b)

    rest : nat_eq y.state q ≡ false → (n : ℕ) → k.place ≡ n → IsOneAt q xs
    rest w zero p =
        absurd
        (not_at q y w
        (ap (λ (z : Rule). z.state)
        (same_Some y k.rule (subst (λ (m : ℕ). slice_get (y ∷ xs) m ≡ Some k.rule) p k.there)) ∙ k.top))
    rest w (suc n) p = record {
      place = n;
      rule = k.rule;
      there = subst (λ (m : ℕ). slice_get (y ∷ xs) m ≡ Some k.rule) p k.there;
      top = k.top;
      only = λ i x e s. (let a = k.only (suc i) x e s in omega (arith, a, p));
    }

    here : (b : Bool) → nat_eq y.state q ≡ b → (IsOneAt q xs → rules_at q xs ≡ 1)
        → (if b then rules_at q xs + 1 else rules_at q xs) ≡ 1
    here true w later = let a = at_none q xs (none w) in omega (arith, a)
    here false w later = later (rest w k.place refl)

-- a list of one item
pub one_alone : (qs : List ℕ) → length qs ≡ 1 → qs ≡ slice_index_or qs 0 0 ∷ []
one_alone [] h = absurd (omega (arith, h))
one_alone (q ∷ []) h = refl
one_alone (q ∷ z ∷ qs) h = absurd (omega (arith, h))

abbrev head_of : List ℕ → ℕ
head_of [] = 0
head_of (z ∷ zs) = z

-- an automaton has one rule at the top where it has one root state, and one rule is at that
pub one_counted : (a : Automaton) (q : ℕ) → a.roots ≡ q ∷ [] → (rules_at q a.rules ≡ 1) ↔ HasOneTop a
one_counted a q e = (
  (λ h.
      (let k = one_at q a.rules h in
      record { root = q; alone = e; place = k.place; rule = k.rule; there = k.there; top = k.top; only = k.only })),
  (λ h.
      let s : h.root ≡ q = first h.root q (sym h.alone ∙ e) in
      subst (λ (z : ℕ). rules_at z a.rules ≡ 1) s
      (at_one h.root a.rules
      (record { place = h.place; rule = h.rule; there = h.there; top = h.top; only = h.only }))),
)
  where
    first : (x y : ℕ) → x ∷ [] ≡ y ∷ [] → x ≡ y
    first x y e = ap head_of e
