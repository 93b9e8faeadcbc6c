-- Tables into which items are taken one by one: either one changed the table, or all of them are taken.
use Rattle.std.proofs.Common.{◌≡◌, ◌⊎◌, inl, inr, ℕ, zero, suc, ◌<◌, Bool, true, false, List, [], ◌∷◌, ◌++◌, get_or}
use Rattle.std.proofs.Common.{set, replicate, refl, sym, ap, subst, ◌∙◌, arith}
use Rattle.std.specs.Bool.{MatchBool}
use Rattle.fore_base.specs.Lists.{IsIn, Every}
use Rattle.fore_base.proofs.ListLemmas.{every_in, in_every, every_push}

-- each item of a list is one of it
pub each_own : {X : Type 0} (P : X → Type 0) (xs : List X) → Every P xs → Every (λ x. IsIn x xs × P x) xs
each_own P xs h = in_every (λ x. IsIn x xs × P x) xs (λ x i. (i, every_in P xs x h i))

-- a table says what was written last, or what it said
pub set_or : {X : Type 0} (xs : List X) (i q : ℕ) (x d : X)
    → ((q ≡ i) × (get_or (set xs i x) q d ≡ x)) ⊎ (get_or (set xs i x) q d ≡ get_or xs q d)
set_or [] i q x d = inr refl
set_or (y ∷ ys) zero zero x d = inl (refl, refl)
set_or (y ∷ ys) zero (suc q) x d = inr refl
set_or (y ∷ ys) (suc i) zero x d = inr refl
set_or (y ∷ ys) (suc i) (suc q) x d = elim (set_or ys i q x d) [ inl h ↦ inl (ap suc h.0, h.1) | inr h ↦ inr h ]

-- a table of which nothing is written says nothing
pub copies_or : {X : Type 0} (n q : ℕ) (d : X) → get_or (replicate n d) q d ≡ d
copies_or zero q d = refl
copies_or (suc n) zero d = refl
copies_or (suc n) (suc q) d = copies_or n q d

module _ {V X : Type 0} (left : V → ℕ) (Taken : V → X → Type 0) (start now new : V) (done : List X) where
  -- one more item changes the value
  pub one_more : (was : Bool) → MatchBool was (left now < left start) ((now ≡ start) × Every (Taken now) done)
      → left new < left now → left new < left start
  one_more true before less = omega (arith, before, less)
  one_more false before less = let e = ap left before.0 in omega (arith, e, less)

  -- one more item is taken already
  pub one_same : (was : Bool) (x : X)
      → MatchBool was (left now < left start) ((now ≡ start) × Every (Taken now) done) → (new ≡ now) × Taken now x
      → MatchBool was (left new < left start) ((new ≡ start) × Every (Taken new) (done ++ x ∷ []))
  one_same true x before same = subst (λ (v : V). left v < left start) (sym same.0) before
  one_same false x before same = (
    same.0 ∙ before.0,
    subst (λ (v : V). Every (Taken v) (done ++ x ∷ [])) (sym same.0) (every_push (Taken now) done x before.1 same.1),
  )
