-- The steps that cut knots, and what holds at their end.
use Rattle.std.proofs.Common.{◌≡◌, ◌⊎◌, inl, inr, ℕ, zero, suc, ◌<◌, ◌≤◌, ◌+◌, length, List, refl, sym, ap, subst, ◌∙◌}
use Rattle.std.proofs.Common.{slice_get, Some, arith}
use Rattle.fore_base.specs.Lists.{IsIn}
use Rattle.ta_core.specs.declared.tree.Tree.{Tree, out-Tree}
use Rattle.fa_core.specs.declared.forest.Target.{Target}
use Rattle.fa_core.specs.declared.forest.Target.TheVariants.{At}
use Rattle.fa_core.specs.declared.faces.BoxFace.{BoxFace}
use Rattle.fa_core.specs.Canonical.{IsRootKind, IsShared, IsUntied}
use Rattle.fa_back.specs.Reached.{RootReached}
use Rattle.fa_canon.specs.inner.Cutting.{AreCut, IsBefore, IsLoose}
use Rattle.fa_canon.specs.inner.Merges.{IsSettled}
use Rattle.fa_canon.proofs.ListPlaces.{place_less}
use Rattle.fa_canon.proofs.Settled.{alone_led, same_or_not}
use Rattle.fa_canon.proofs.TopCells.{field_place}

less_or : (r n : ℕ) → (r < n) ⊎ (n ≤ r)
less_or r zero = inr (omega arith)
less_or zero (suc n) = inl (omega arith)
less_or (suc r) (suc n) = elim (less_or r n) [ inl l ↦ inl (omega (arith, l)) | inr l ↦ inr (omega (arith, l)) ]

module _ (vars : List Target) (n r : ℕ) (ts : List Tree) where
  -- nothing is cut where each root is shared or alone
  pub cut_start : length ts ≡ n → ((k : ℕ) → k < length ts → IsSettled vars ts k) → AreCut vars n 0 0 ts
  cut_start e s = record {
    settled = λ k l. s k (omega (arith, e, l));
    knots = λ k l b. absurd (omega (arith, e, l, b));
    loose = λ k q h. elim h [ inl l ↦ absurd (omega (arith, l)) | inr l ↦ absurd (let z = l.1 in omega (arith, z)) ];
  }

  -- one more place where the child is loose
  pub loose_step : (p : ℕ) → IsLoose ts r p → AreCut vars n r p ts → AreCut vars n r (p + 1) ts
  loose_step p h c = record { settled = c.settled; knots = c.knots; loose = here }
    where
      here : (k q : ℕ) → IsBefore k q r (p + 1) → IsShared vars ts k → IsLoose ts k q
      here k q (inl l) s = c.loose k q (inl l) s
      here k q (inr (e, l)) s = elim (same_or_not q p) [
        | inl z ↦ subst (λ (m : ℕ). IsLoose ts m q) (sym e) (subst (λ (m : ℕ). IsLoose ts r m) (sym z) h)
        | inr d ↦ c.loose k q (inr (e, omega (arith, l, d))) s
      ]

  -- the next root, where this one is not shared
  pub skip_root : (IsShared vars ts r → ⊥) → AreCut vars n r 0 ts → AreCut vars n (r + 1) 0 ts
  skip_root none c = record { settled = c.settled; knots = c.knots; loose = here }
    where
      here : (k q : ℕ) → IsBefore k q (r + 1) 0 → IsShared vars ts k → IsLoose ts k q
      here k q (inr l) s = absurd (let z = l.1 in omega (arith, z))
      here k q (inl l) s = elim (same_or_not k r) [
        | inl e ↦ absurd (none (subst (λ (m : ℕ). IsShared vars ts m) e s))
        | inr d ↦ c.loose k q (inl (omega (arith, l, d))) s
      ]

  -- the next root, where no child is left
  pub next_root : (m : ℕ) → ((t : Tree) → slice_get ts r ≡ Some t → length (out-Tree t).children ≡ m)
      → AreCut vars n r m ts → AreCut vars n (r + 1) 0 ts
  next_root m w c = record { settled = c.settled; knots = c.knots; loose = here }
    where
      here : (k q : ℕ) → IsBefore k q (r + 1) 0 → IsShared vars ts k → IsLoose ts k q
      here k q (inr l) s = absurd (let z = l.1 in omega (arith, z))
      here k q (inl l) s = elim (same_or_not k r) [
        | inl e ↦
            (λ t u g y f.
            c.loose k q
            (inr (
              e,
              (let a = place_less (out-Tree t).children q u f in
                  let b = w t (ap (λ (j : ℕ). slice_get ts j) (sym e) ∙ g) in omega (arith, a, b)),
            )) s t u g y f)
        | inr d ↦ c.loose k q (inl (omega (arith, l, d))) s
      ]

-- at the end each root that is reached is of one of the kinds, and no other cell is a knot
module _ (bs : List BoxFace) (vars : List Target) (n : ℕ) (ts : List Tree) (few : (k : ℕ) → IsIn (At k) vars → k < n)
    (c : AreCut vars n n 0 ts) where
  pub end_kinds : ((r : ℕ) → r < length ts → RootReached bs vars ts r) → (r : ℕ) → r < length ts
      → IsRootKind bs vars ts r
  end_kinds reached r l = elim (less_or r n) [
    | inl i ↦ elim (c.settled r i) [
      | inl s ↦ inl s
      | inr a ↦ inr (inl (alone_led bs vars ts r a r (reached r l) refl))
    ]
    | inr i ↦ inr (inr (c.knots r i l))
  ]

  shared_less : (r : ℕ) → r < length ts → IsShared vars ts r → r < n
  shared_less r l s = elim (less_or r n) [
    | inl i ↦ i
    | inr i ↦ absurd
        (elim s [
          | inl v ↦ (let w = few r v in omega (arith, w, i))
          | inr v ↦ (let w = (c.knots r i l).one in omega (arith, w, v))
        ])
  ]

  pub end_untied : IsUntied vars ts
  end_untied r t u s e f d h =
      let l = place_less ts r t e in
      let q = field_place (out-Tree t).symbol (out-Tree t).children u f in
      c.loose r q.0 (inl (shared_less r l s)) s t u e q.1 q.2 d h
