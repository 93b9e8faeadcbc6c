-- What holds of the halves of a list holds of the whole.
use Rattle.std.proofs.Common.{
  ◌≡◌,
  ℕ,
  zero,
  suc,
  ◌+◌,
  List,
  [],
  ◌∷◌,
  ◌++◌,
  length,
  take,
  drop,
  slice_get,
  Option,
  Some,
  None,
  Result,
  Ok,
  Err,
  IfOk,
  refl,
  sym,
  ap,
  subst,
  ◌∙◌,
  arith,
}
use Rattle.std.proofs.lemmas.List.{take-append-drop}
use Rattle.fore_base.proofs.ListLemmas.{every_append}
use Rattle.fore_base.specs.Lists.{Every, Paired}
use Rattle.par_kit.specs.Phases.{NoneMeets, IsLeast, IsFirst}

none_before : (n : ℕ) → 0 + n ≡ n
none_before n = omega arith

moved_on : (m n : ℕ) → suc m + n ≡ suc (m + n)
moved_on m n = omega arith

module _ {X : Type 0} where
  pub whole : (n : ℕ) (xs front back : List X) → front ≡ take n xs → back ≡ drop n xs → front ++ back ≡ xs
  whole n xs front back f b = ap (λ ys. ys ++ back) f ∙ ap (λ ys. take n xs ++ ys) b ∙ take-append-drop n xs

  left_get : (front back : List X) (i : ℕ) (x : X) → slice_get front i ≡ Some x
      → slice_get (front ++ back) i ≡ Some x
  left_get [] back i x e = cc
  left_get (y ∷ front) back zero x e = e
  left_get (y ∷ front) back (suc i) x e = left_get front back i x e

  left_take : (front back : List X) (i : ℕ) (x : X) → slice_get front i ≡ Some x
      → take i (front ++ back) ≡ take i front
  left_take [] back i x e = cc
  left_take (y ∷ front) back zero x e = refl
  left_take (y ∷ front) back (suc i) x e = ap (λ ys. y ∷ ys) (left_take front back i x e)

  pub least_left : (P : X → Type 0) (xs front back : List X) (i : ℕ) → front ++ back ≡ xs → IsLeast P front i
      → IsLeast P xs i
  least_left P xs front back i e h = subst (λ (ys : List X). IsLeast P ys i) e
      (h.0, left_get front back i h.0 h.1, h.2, subst (NoneMeets P) (sym (left_take front back i h.0 h.1)) h.3)

  right_get : (front back : List X) (i : ℕ) → slice_get (front ++ back) (length front + i) ≡ slice_get back i
  right_get [] back i = ap (slice_get back) (none_before i)
  right_get (y ∷ front) back i = ap (slice_get (y ∷ front ++ back)) (moved_on (length front) i) ∙ right_get front back i

  right_take : (front back : List X) (i : ℕ) → take (length front + i) (front ++ back) ≡ front ++ take i back
  right_take [] back i = ap (λ n. take n back) (none_before i)
  right_take (y ∷ front) back i = ap (λ n. take n (y ∷ front ++ back)) (moved_on (length front) i)
      ∙ ap (λ ys. y ∷ ys) (right_take front back i)

  pub least_right : (P : X → Type 0) (xs front back : List X) (i : ℕ) → front ++ back ≡ xs → NoneMeets P front
      → IsLeast P back i → IsLeast P xs (length front + i)
  least_right P xs front back i e none h = subst (λ (ys : List X). IsLeast P ys (length front + i)) e (
    h.0,
    right_get front back i ∙ h.1,
    h.2,
    subst (NoneMeets P) (sym (right_take front back i)) (every_append (λ x. P x → ⊥) front (take i back) none h.3),
  )

-- what the halves answered
module _ {X E : Type 0} (P : X → Type 0) (xs : List X) where
  pub found_in : (r : Result (Option ℕ) E) (o : Option ℕ) (i : ℕ) → r ≡ Ok o → o ≡ Some i → IfOk r (IsFirst P xs)
      → IsLeast P xs i
  found_in (Ok p) o i e f h = let k : p ≡ Some i = cc in subst (λ (q : Option ℕ). IsFirst P xs q) k h
  found_in (Err x) o i e f h = cc

  pub none_in : (r : Result (Option ℕ) E) (o : Option ℕ) → r ≡ Ok o → o ≡ None → IfOk r (IsFirst P xs)
      → NoneMeets P xs
  none_in (Ok p) o e f h = let k : p ≡ None = cc in subst (λ (q : Option ℕ). IsFirst P xs q) k h
  none_in (Err x) o e f h = cc

module _ {X Y : Type 0} (R : X → Y → Type 0) (xs : List X) where
  paired_both : (front back : List X) (made more : List Y) → front ++ back ≡ xs → Paired R front made
      → Paired R back more → Paired R xs (made ++ more)
  paired_both front back made more e h k = subst (λ (zs : List X). Paired R zs (made ++ more)) e (both front made h)
    where
      both : (ys : List X) (zs : List Y) → Paired R ys zs → Paired R (ys ++ back) (zs ++ more)
      both [] [] g = k
      both [] (z ∷ zs) g = absurd g
      both (y ∷ ys) [] g = absurd g
      both (y ∷ ys) (z ∷ zs) g = (g.0, both ys zs g.1)

  module _ {E : Type 0} where
    pub made_in : (r : Result (List Y) E) (made : List Y) → r ≡ Ok made → IfOk r (Paired R xs) → Paired R xs made
    made_in (Ok ys) made e h = let k : ys ≡ made = cc in subst (Paired R xs) k h
    made_in (Err x) made e h = cc

    pub joined_in : (front back : List X) (made more : List Y) (r : Result (List Y) E) → front ++ back ≡ xs
        → Paired R front made → Paired R back more → IfOk r (λ all. all ≡ made ++ more) → IfOk r (Paired R xs)
    joined_in front back made more (Ok all) e h k is =
        subst (Paired R xs) (sym is) (paired_both front back made more e h k)
    joined_in front back made more (Err x) e h k is = tt
