-- Two lists walked side by side.
use Rattle.std.proofs.Common.{◌≡◌, ◌↔◌, ℕ, ◌<◌, ◌+◌, List, length, get_or, drop}
use Rattle.fore_base.specs.Lists.{Paired}
use Rattle.fore_base.proofs.ListLemmas.{drop_item}

-- what is left behind place i is related exactly where the lists are
abbrev pub IsUpTo : {X : Type 0} → (X → X → Type 0) → List X → List X → ℕ → Type 0
IsUpTo R xs ys i = (length xs ≡ length ys) × (Paired R (drop i xs) (drop i ys) ↔ Paired R xs ys)

module _ {X : Type 0} (R : X → X → Type 0) (xs ys : List X) (i : ℕ) (x y : X) (low : i < length xs)
    (at : x ≡ get_or xs i x) (with : y ≡ get_or ys i y) (left : IsUpTo R xs ys i) where
  first_left : Paired R (drop (i + 1) xs) (drop (i + 1) ys) × R x y ↔ Paired R xs ys
  first_left =
      let d = drop_item xs i x low at in
      let m : i < length ys = rw (← left.0) low in
      let e = drop_item ys i y m with in
      let v = rw (d, e) at left.1 in
      ((λ h. v.0 (h.1, h.0)), (λ k. let p = v.1 k in (p.1, p.0)))

  -- the items at the place are not related, or what is left behind them
  pub pair_fails : (R x y → ⊥) → Paired R xs ys → ⊥
  pair_fails f p = f (first_left.1 p).1

  pub pair_goes_on : R x y → IsUpTo R xs ys (i + 1)
  pair_goes_on r = (left.0, ((λ h. first_left.0 (h, r)), (λ k. (first_left.1 k).0)))
