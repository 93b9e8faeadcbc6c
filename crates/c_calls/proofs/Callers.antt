-- Callers, one after another.
use Rattle.std.proofs.Common.{◌≡◌, ◌⊎◌, inl, inr, ℕ, zero, suc, ◌<◌, ◌+◌, List, [], ◌∷◌, ◌++◌, length, set, replicate}
use Rattle.std.proofs.Common.{refl, sym, subst, ◌∙◌, arith, length-set}
use Rattle.std.proofs.lemmas.Bool.{cases_eq, cases_lt}
use Rattle.std.proofs.lemmas.List.{length-replicate, get_or-set_same, get_or-set_other}
use Rattle.fore_base.specs.Lists.{IsIn}
use Rattle.fore_base.proofs.ListLemmas.{in_left, in_right, in_append, in_last, in_push}
use Rattle.c_calls.proofs.Places.{caller_within}
use Rattle.c_calls.specs.Calls.{called_by, AreCallers}
use Rattle.c_calls.specs.inner.Turning.{Adds, AreCallersUpTo}

pub adds_none : (f : ℕ) (table : List (List ℕ)) → Adds f [] table table
adds_none f table = record {
  long = refl;
  stay = λ g x i. i;
  only = λ g x i. inl i;
  each = λ g i. absurd i;
}

pub adds_more : (f : ℕ) (xs ys : List ℕ) (a b c : List (List ℕ)) → Adds f xs a b → Adds f ys b c → Adds f (xs ++ ys) a c
adds_more f xs ys a b c u v = record {
  long = v.long ∙ u.long;
  stay = λ g x i. v.stay g x (u.stay g x i);
  only = λ g x i. elim (v.only g x i) [
    | inl j ↦ elim (u.only g x j) [ inl k ↦ inl k | inr k ↦ inr (k.0, in_left g xs ys k.1) ]
    | inr k ↦ inr (k.0, in_right g xs ys k.1)
  ];
  each = λ g i. elim (in_append g xs ys i) [ inl j ↦ v.stay g f (u.each g j) | inr j ↦ v.each g j ];
}

module _ (f h : ℕ) (table : List (List ℕ)) (low : h < length table) where
  abbrev own : List ℕ
  own = called_by table h ++ f ∷ []

  abbrev new : List (List ℕ)
  new = set table h own

  here : called_by new h ≡ own
  here = get_or-set_same table h own [] low

  there : (g : ℕ) → (g ≡ h → ⊥) → called_by new g ≡ called_by table g
  there g d = get_or-set_other table h g own [] d

  stay : (g x : ℕ) → IsIn x (called_by table g) → (g ≡ h) ⊎ (g ≡ h → ⊥) → IsIn x (called_by new g)
  stay g x i (inl e) = subst (λ (n : ℕ). IsIn x (called_by new n)) (sym e)
      (subst (IsIn x) (sym here)
      (in_left x (called_by table h) (f ∷ []) (subst (λ (n : ℕ). IsIn x (called_by table n)) e i)))
  stay g x i (inr d) = subst (IsIn x) (sym (there g d)) i

  only : (g x : ℕ) → IsIn x (called_by new g) → (g ≡ h) ⊎ (g ≡ h → ⊥)
      → IsIn x (called_by table g) ⊎ ((x ≡ f) × IsIn g (h ∷ []))
  only g x i (inl e) =
      elim (in_push f x (called_by table h)
      (subst (IsIn x) here (subst (λ (n : ℕ). IsIn x (called_by new n)) e i))) [
        | inl j ↦ inl (subst (λ (n : ℕ). IsIn x (called_by table n)) (sym e) j)
        | inr d ↦ inr (d, inl e)
      ]
  only g x i (inr d) = inl (subst (IsIn x) (there g d) i)

  pub adds_one : Adds f (h ∷ []) table new
  adds_one = record {
    long = length-set table h own;
    stay = λ g x i. stay g x i (cases_eq g h);
    only = λ g x i. only g x i (cases_eq g h);
    each = λ g i. elim i [
      | inl e ↦ subst (λ (n : ℕ). IsIn f (called_by new n)) (sym e) (subst (IsIn f) (sym here)
          (in_last f (called_by table h)))
      | inr n ↦ absurd n
    ];
  }

-- Callers up to a function.

none_at : (n g : ℕ) → called_by (replicate n []) g ≡ []
none_at zero g = refl
none_at (suc n) zero = refl
none_at (suc n) (suc g) = none_at n g

pub callers_none : (calls : List (List ℕ)) → AreCallersUpTo calls 0 (replicate (length calls) [])
callers_none calls = record {
  long = length-replicate (length calls) [];
  only = λ f g i. absurd (subst (IsIn f) (none_at (length calls) g) i);
  each = λ f g l i. absurd (omega (arith, l));
}

pub callers_more : (calls : List (List ℕ)) (k : ℕ) (old new : List (List ℕ)) → AreCallersUpTo calls k old
    → Adds k (called_by calls k) old new → AreCallersUpTo calls (k + 1) new
callers_more calls k old new h a = record {
  long = a.long ∙ h.long;
  only = λ f g i. elim (a.only g f i) [
    | inl j ↦ (let w = h.only f g j in let l = w.0 in (omega (arith, l), w.1))
    | inr w ↦ (let e = w.0 in (omega (arith, e), subst (λ (n : ℕ). IsIn g (called_by calls n)) (sym e) w.1))
  ];
  each = λ f g l i. elim (cases_lt f k) [
    | inl b ↦ a.stay g f (h.each f g b i)
    | inr b ↦ (let e : f ≡ k = omega (arith, b, l) in
        subst (λ (n : ℕ). IsIn n (called_by new g)) (sym e)
        (a.each g (subst (λ (n : ℕ). IsIn g (called_by calls n)) e i)))
  ];
}

pub callers_all : (calls callers : List (List ℕ)) → AreCallersUpTo calls (length calls) callers
    → AreCallers calls callers
callers_all calls callers h = record {
  long = h.long;
  only = λ f g i. (h.only f g i).1;
  each = λ f g i. h.each f g (caller_within calls f g i) i;
}
