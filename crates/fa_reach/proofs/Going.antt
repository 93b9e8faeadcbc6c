-- What is reached by parts, for one choice of signatures and for another.
use Rattle.std.proofs.Common.{◌≡◌, ◌≢◌, ◌⊎◌, inl, inr, ℕ, zero, suc, ◌<◌, List, [], ◌∷◌, map, length, refl, sym}
use Rattle.std.proofs.Common.{ap, subst, ◌∙◌, arith, Some, slice_get, set}
use Rattle.std.proofs.lemmas.List.{length-map}
use Rattle.std.proofs.lemmas.Option.{none-some, same_Some, slice_get_within}
use Rattle.fore_base.specs.Lists.{IsIn, Every, Paired}
use Rattle.fore_base.proofs.ListLemmas.{in_every, every_in, in_map, in_mapped, paired_long}
use Rattle.fa_back.proofs.RootMarks.{in_flat, flat_in}
use Rattle.fa_back.proofs.FactParts.{same_or_not}
use Rattle.fa_back.proofs.Pairs.{paired_at, paired_back}
use Rattle.fa_reach.specs.declared.part.Part.{Part}
use Rattle.fa_reach.specs.inner.Going.{Goes, here, down, back, AreOf, Forced, Missed, Met, Barred, IsFit, AreFit}
use Rattle.fa_reach.specs.inner.Going.{flat, merged}

module _ {X : Type 0} where
  pub get_set_same : (xs : List X) (i : ℕ) (x : X) → i < length xs → slice_get (set xs i x) i ≡ Some x
  get_set_same [] i x l = absurd (omega (arith, l))
  get_set_same (y ∷ xs) zero x l = refl
  get_set_same (y ∷ xs) (suc i) x l = get_set_same xs i x (omega (arith, l))

  pub get_set_other : (xs : List X) (i k : ℕ) (x : X) → k ≢ i → slice_get (set xs i x) k ≡ slice_get xs k
  get_set_other [] i k x n = refl
  get_set_other (y ∷ xs) zero zero x n = absurd (n refl)
  get_set_other (y ∷ xs) zero (suc k) x n = refl
  get_set_other (y ∷ xs) (suc i) zero x n = refl
  get_set_other (y ∷ xs) (suc i) (suc k) x n = get_set_other xs i k x (λ e. n (ap suc e))

module _ {X Y : Type 0} (R : X → Y → Type 0) where
  -- another partner
  pub paired_set : (xs : List X) (ys : List Y) (k : ℕ) (x : X) (y : Y) → Paired R xs ys → slice_get ys k ≡ Some y
      → R x y → Paired R (set xs k x) ys
  paired_set xs [] k x y p e r = absurd (none-some y e)
  paired_set [] (z ∷ ys) k x y p e r = absurd p
  paired_set (w ∷ xs) (z ∷ ys) zero x y p e r = (subst (R x) (sym (same_Some z y e)) r, p.1)
  paired_set (w ∷ xs) (z ∷ ys) (suc k) x y p e r = (p.0, paired_set xs ys k x y p.1 e r)

abbrev pub IsOf : List ℕ → Part → Type 0
IsOf d p = IsIn d p.downs

module _ (ps : List Part) (ds : List (List ℕ)) where
  pub goes_on : (i j r : ℕ) → Goes ps ds i j → Goes ps ds j r → Goes ps ds i r
  goes_on i j r g (here e) = subst (Goes ps ds i) (sym e) g
  goes_on i j r g (down k d h a m) = down k d (goes_on i j k g h) a m
  goes_on i j r g (back p h k a m e) = back p h (goes_on i j h.from g k) a m e

  -- with another signature of component j: what was reached still is, or component j is
  pub goes_other : (j : ℕ) (d : List ℕ) (i r : ℕ) → Goes ps ds i r
      → Goes ps (set ds j d) i r ⊎ Goes ps (set ds j d) i j
  goes_other j d i r (here e) = inl (here e)
  goes_other j d i r (down k c h a m) = elim (goes_other j d i k h) [
    | inl g ↦ elim (same_or_not k j) [
      | inl e ↦ inr (subst (Goes ps (set ds j d) i) e g)
      | inr n ↦ inl (down k c g (get_set_other ds j k d n ∙ a) m)
    ]
    | inr g ↦ inr g
  ]
  goes_other j d i r (back p h k a m e) = elim (goes_other j d i h.from k) [
    | inl g ↦ inl (back p h g a m e)
    | inr g ↦ inr g
  ]

-- some choice of signatures
pub some_downs : (n : ℕ) (ps : List Part) → Every (IsFit n) ps → (ds : List (List ℕ)) × AreOf ds ps
some_downs n [] f = ([], tt)
some_downs n (p ∷ ps) f = let w = some_downs n ps f.1 in (f.0.some.0 ∷ w.0, (f.0.some.1, w.1))

-- Parts with all the roots of their signatures.

flat_root : (p : Part) (d : List ℕ) (r : ℕ) → IsIn d (flat p.downs ∷ []) → IsIn r d → (c : List ℕ) × IsIn c p.downs
    × IsIn r c
flat_root p d r (inl e) i = flat_in (λ (c : List ℕ). c) p.downs r (subst (IsIn r) e i)
flat_root p d r (inr z) i = absurd z

-- what such parts reach, some choice reaches
pub merged_met : (n : ℕ) (ps : List Part) (us : List (List ℕ)) → Every (IsFit n) ps → AreOf us (map merged ps)
    → (i r : ℕ) → Goes (map merged ps) us i r → Met ps i r
merged_met n ps us f of i r (here e) = let w = some_downs n ps f in (w.0, w.1, here e)
merged_met n ps us f of i r (down j d h a m) =
    let w = merged_met n ps us f of i j h in
    let at = paired_at IsOf us (map merged ps) j d of a in
    let from = map_at ps j at.0 at.1 in
    let c = flat_root from.0 d r (subst (λ (q : Part). IsIn d q.downs) from.2 at.2) m in
    let long = slice_get_within ps j from.0 from.1 in
    let same = paired_long IsOf w.0 ps w.1 in
    let g : Goes ps (set w.0 j c.0) i j = elim (goes_other ps w.0 j c.0 i j w.2) [ inl g ↦ g | inr g ↦ g ] in (
      set w.0 j c.0,
      paired_set IsOf w.0 ps j c.0 from.0 w.1 from.1 c.1,
      down j c.0 g (get_set_same w.0 j c.0 (omega (arith, long, same))) c.2,
    )
  where
    map_at : (qs : List Part) (k : ℕ) (p : Part) → slice_get (map merged qs) k ≡ Some p
        → (q : Part) × (slice_get qs k ≡ Some q) × (p ≡ merged q)
    map_at [] k p e = absurd (none-some p e)
    map_at (q ∷ qs) zero p e = (q, refl, sym (same_Some (merged q) p e))
    map_at (q ∷ qs) (suc k) p e = map_at qs k p e
merged_met n ps us f of i r (back p h k a m e) =
    let w = merged_met n ps us f of i h.from k in
    let q = in_mapped merged p ps a in
    (w.0, w.1, back q.0 h w.2 q.1 (subst (λ (z : Part). IsIn h z.hops) q.2 m) e)

-- and what some choice reaches, they reach
pub met_merged : (ps : List Part) (us ds : List (List ℕ)) → AreOf us (map merged ps) → AreOf ds ps → (i r : ℕ)
    → Goes ps ds i r → Goes (map merged ps) us i r
met_merged ps us ds ou of i r (here e) = here e
met_merged ps us ds ou of i r (down j d h a m) =
    let at = paired_at IsOf ds ps j d of a in
    let u = paired_back IsOf us (map merged ps) j (merged at.0) ou (at_map ps j at.0 at.1) in
    let same : u.0 ≡ flat at.0.downs = elim u.2 [ inl e ↦ e | inr z ↦ absurd z ] in
    down j u.0 (met_merged ps us ds ou of i j h) u.1
    (subst (IsIn r) (sym same) (in_flat (λ (c : List ℕ). c) at.0.downs d r at.2 m))
  where
    at_map : (qs : List Part) (k : ℕ) (q : Part) → slice_get qs k ≡ Some q → slice_get (map merged qs) k
        ≡ Some (merged q)
    at_map [] k q e = absurd (none-some q e)
    at_map (p ∷ qs) zero q e = ap (λ (z : Part). Some (merged z)) (same_Some p q e)
    at_map (p ∷ qs) (suc k) q e = at_map qs k q e
met_merged ps us ds ou of i r (back p h k a m e) =
    back (merged p) h (met_merged ps us ds ou of i h.from k) (in_map merged p ps a) m e

merged_fit : (n : ℕ) (p : Part) → IsFit n p → IsFit n (merged p)
merged_fit n p f = record {
  hops = f.hops;
  downs = λ d i. in_every (λ k. k < n) d (λ r j. (let c = flat_root p d r i j in
      every_in (λ k. k < n) c.0 r (f.downs c.0 c.1) c.2));
  some = (flat p.downs, inl refl);
}

all_fit : (n : ℕ) (ps : List Part) → Every (IsFit n) ps → Every (IsFit n) (map merged ps)
all_fit n [] f = tt
all_fit n (p ∷ ps) f = (merged_fit n p f.0, all_fit n ps f.1)

pub are_fit : (ps : List Part) → AreFit ps → AreFit (map merged ps)
are_fit ps f = subst (λ (n : ℕ). Every (IsFit n) (map merged ps)) (sym (length-map ps merged))
    (all_fit (length ps) ps f)

-- so the two questions are one
pub missed_barred : (ps : List Part) (i r : ℕ) → Missed (map merged ps) i r → Barred ps i r
missed_barred ps i r m ds of g = m.2 (met_merged ps m.0 ds m.1 of i r g)

pub forced_met : (ps : List Part) (i r : ℕ) → AreFit ps → Forced (map merged ps) i r → Met ps i r
forced_met ps i r f g =
    let w = some_downs (length (map merged ps)) (map merged ps) (are_fit ps f) in
    merged_met (length ps) ps w.0 f w.1 i r (g w.0 w.1)
