-- The pairs that no later one covers, taken from the last one on.
use Rattle.std.proofs.Common.{◌≡◌, ◌⊎◌, ◌↔◌, inl, inr, ℕ, ◌+◌, ◌<◌, Bool, List, [], ◌∷◌, ◌++◌, refl, sym, subst, arith}
use Rattle.fore_base.specs.Lists.{IsIn, Every}
use Rattle.fore_base.specs.Marks.{IsMarked}
use Rattle.fore_base.proofs.ListLemmas.{every_in, every_push, every_weaker, in_append, in_every, in_left, in_right}
use Rattle.ta_incl.specs.declared.found.Found.{Found}
use Rattle.ta_incl.specs.declared.order.Order.{Order}
use Rattle.ta_incl.specs.inner.Founds.{IsCover, HasCover, AreFresh, AreApart, IsThinned}
use Rattle.ta_incl.proofs.Covering.{cover_left, fresh_pop}
use Rattle.ta_incl.proofs.Places.{every_pop}

-- some of the found pairs are kept, and the rest is still to be looked at
pub record Thinning (order : Order) (found rest kept : List Found) : Type 0 where
  pub of : Every (λ f. IsIn f found) kept
  pub left : Every (λ f. IsIn f found) rest
  pub fresh : AreFresh order rest
  pub apart : AreApart order kept
  pub ahead : Every (λ k. Every (λ f. IsCover order f k → ⊥) rest) kept
  pub cover : (f : Found) → IsIn f found → IsIn f rest ⊎ HasCover order kept f

pub thin_start : (order : Order) (found : List Found) → AreFresh order found → Thinning order found found []
thin_start order found h = record
    { of = tt; left = in_every _ found (λ f i. i); fresh = h; apart = tt; ahead = tt; cover = λ f i. inl i }

apart_push : (order : Order) (kept : List Found) (x : Found) → AreApart order kept
    → Every (λ g. (IsCover order g x → ⊥) × (IsCover order x g → ⊥)) kept → AreApart order (kept ++ x ∷ [])
apart_push order [] x h k = (tt, tt)
apart_push order (g ∷ kept) x h k = (every_push _ kept x h.0 k.0, apart_push order kept x h.1 k.1)

module _ (order : Order) (found rest kept : List Found) (x : Found)
    (h : Thinning order found (rest ++ x ∷ []) kept) where
  heads : Every (λ k. Every (λ f. IsCover order f k → ⊥) rest) kept
  heads = every_weaker _ _ kept (λ k e. (every_pop (λ f. IsCover order f k → ⊥) rest x e).0) h.ahead

  -- a pair that no kept one covers is kept
  pub thin_keep : Every (λ f. IsCover order f f) found → (HasCover order kept x → ⊥)
      → Thinning order found rest (kept ++ x ∷ [])
  thin_keep same f = record {
    of = every_push _ kept x h.of (every_pop (λ g. IsIn g found) rest x h.left).1;
    left = (every_pop (λ g. IsIn g found) rest x h.left).0;
    fresh = (fresh_pop order rest x h.fresh).0;
    apart = apart_push order kept x h.apart (in_every _ kept (λ g i. (
      λ c. f (g, i, c),
      (every_pop (λ y. IsCover order y g → ⊥) rest x (every_in _ kept g h.ahead i)).1,
    )));
    ahead = every_push _ kept x heads (fresh_pop order rest x h.fresh).1;
    cover = λ g i. elim (h.cover g i) [
      | inl j ↦ (elim (in_append g rest (x ∷ []) j) [
        | inl k ↦ inl k
        | inr (inl e) ↦ inr (
          x,
          in_right x kept (x ∷ []) (inl refl),
          subst (λ (y : Found). IsCover order x y) (sym e)
              (every_in (λ (y : Found). IsCover order y y) found x same
              (every_pop (λ y. IsIn y found) rest x h.left).1),
        )
        | inr (inr k) ↦ absurd k
      ])
      | inr c ↦ inr (cover_left order kept (x ∷ []) g c)
    ];
  }

  -- one that a kept one covers is left out
  pub thin_drop : HasCover order kept x → Thinning order found rest kept
  thin_drop c = record {
    of = h.of;
    left = (every_pop (λ g. IsIn g found) rest x h.left).0;
    fresh = (fresh_pop order rest x h.fresh).0;
    apart = h.apart;
    ahead = heads;
    cover = λ g i. elim (h.cover g i) [
      | inl j ↦ (elim (in_append g rest (x ∷ []) j) [
        | inl k ↦ inl k
        | inr (inl e) ↦ inr (subst (HasCover order kept) (sym e) c)
        | inr (inr k) ↦ absurd k
      ])
      | inr d ↦ inr d
    ];
  }

pub thin_end : (order : Order) (found kept : List Found) → Thinning order found [] kept → IsThinned order found kept
thin_end order found kept h = record {
  of = h.of;
  apart = h.apart;
  cover = in_every _ found (λ f i. elim (h.cover f i) [ inl j ↦ absurd j | inr c ↦ c ]);
}

-- the states below n that have marks
abbrev pub AreMarkedBelow : List Bool → ℕ → List ℕ → Type 0
AreMarkedBelow marks n set = (q : ℕ) → IsIn q set ↔ (IsMarked marks q × (q < n))

module _ (marks : List Bool) (n : ℕ) (set : List ℕ) (h : AreMarkedBelow marks n set) where
  pub set_push : IsMarked marks n → AreMarkedBelow marks (n + 1) (set ++ n ∷ [])
  set_push m q = (
    λ i. elim (in_append q set (n ∷ []) i) [
      | inl j ↦ (let k = (h q).0 j in let l = k.1 in (k.0, omega (arith, l)))
      | inr (inl e) ↦ (subst (IsMarked marks) (sym e) m, omega (arith, e))
      | inr (inr j) ↦ absurd j
    ],
    λ k. let l = k.1 in elim (split q (omega (arith, l))) [
      | inl low ↦ in_left q set (n ∷ []) ((h q).1 (k.0, low))
      | inr e ↦ in_right q set (n ∷ []) (inl e)
    ],
  )
    where
      split : (p : ℕ) → p < n + 1 → (p < n) ⊎ (p ≡ n)
      split p l = grind (arith, l)

  pub set_skip : (IsMarked marks n → ⊥) → AreMarkedBelow marks (n + 1) set
  set_skip f q = (
    λ i. let k = (h q).0 i in let l = k.1 in (k.0, omega (arith, l)),
    λ k. (h q).1 (k.0, low k.0 k.1),
  )
    where
      low : IsMarked marks q → q < n + 1 → q < n
      low m l = let differ : (q ≡ n → ⊥) = λ e. f (subst (IsMarked marks) e m) in grind (arith, l, differ)
