-- All cells of a choice are right where their shapes are, those below others have each field once, and those at roots
-- have each field as often as they must.
use Rattle.std.proofs.Common.{◌≡◌, ℕ, zero, suc, ◌<◌, ◌≤◌, ◌+◌, Bool, true, false, true≢false, List, []}
use Rattle.std.proofs.Common.{◌∷◌, ◌++◌, length, map, flat_map, cond, nat_eq, nat_lt, Some, slice_get}
use Rattle.std.proofs.Common.{refl, sym, ap, subst, ◌∙◌, arith}
use Rattle.std.proofs.lemmas.Bool.{eqb-true, eq-eqb, ltb-true, ltb-false}
use Rattle.std.proofs.lemmas.Option.{none-some, same_Some}
use Rattle.fore_base.specs.Lists.{IsIn, Every, IsDistinct}
use Rattle.fore_base.specs.declared.store.Datum.{Datum}
use Rattle.ta_core.specs.Auto.{Automaton}
use Rattle.ta_core.specs.declared.symbol.Slot.{Slot}
use Rattle.ta_core.specs.declared.symbol.Symbol.{Symbol}
use Rattle.ta_core.specs.declared.symbol.Symbol.TheVariants.{Null, Uninit, Dangling, Ref, Cell}
use Rattle.ta_core.specs.declared.tree.Tree.{Tree, out-Tree}
use Rattle.fa_core.specs.declared.faces.Face.{Face}
use Rattle.fa_core.specs.Cells.{edges}
use Rattle.fa_core.specs.Filled.{Spot, spots, spots_at, covers, fields_of, given_at}
use Rattle.fa_core.specs.Rearranged.{often}
use Rattle.fa_core.specs.Ways.{given_by}
use Rattle.fa_core.proofs.Counts.{often_same, often_out, often_in}
use Rattle.fa_core.proofs.NodeSpots.{spots_out, with_spots}
use Rattle.fa_core.proofs.SameCounts.{alike}
use Rattle.fa_box_rules.specs.Cells.{IsRightCell, IsRightUnder, AreRight}
use Rattle.fa_filling.specs.Ruled.{spot}
use Rattle.fa_filling.proofs.SpotRules.{cell_spots, every_flat, flat_every, top_symbol}
use Rattle.fa_filling.proofs.Fillings.{choice_long}
use Rattle.fa_giving.specs.inner.Shaped.{IsShapedSpot, IsShapedRoot, IsOnceSpot, IsOnceRoot}
use Rattle.fa_giving.specs.inner.Totals.{IsGivenRight, Fits, ForAll}

-- COUNTS

distinct_often : (xs : List ℕ) → IsDistinct xs → (n : ℕ) → often n xs ≤ 1
distinct_often [] h n = omega arith
distinct_often (x ∷ xs) h n = here (distinct_often xs h.1 n) (nat_eq n x) refl
  where
    here : often n xs ≤ 1 → (b : Bool) → nat_eq n x ≡ b → cond b (often n xs + 1) (often n xs) ≤ 1
    here l true e = let z = often_out n xs (λ i. h.0 (subst (λ (m : ℕ). IsIn m xs) (eqb-true n x e) i))
        in omega (arith, z)
    here l false e = l

often_distinct : (xs : List ℕ) → ((n : ℕ) → often n xs ≤ 1) → IsDistinct xs
often_distinct [] h = tt
often_distinct (x ∷ xs) h = (
  (λ i. (let e = eq-eqb x x refl in let g : often x (x ∷ xs) ≡ often x xs + 1 = rw e refl in
      let k = often_in x xs i in let l = h x in omega (arith, g, k, l))),
  often_distinct xs (λ n. fewer n (nat_eq n x) (h n)),
)
  where
    fewer : (n : ℕ) (b : Bool) → cond b (often n xs + 1) (often n xs) ≤ 1 → often n xs ≤ 1
    fewer n true l = omega (arith, l)
    fewer n false l = l

every_both : {X : Type 0} (P Q R : X → Type 0) (xs : List X) → ((x : X) → P x → Q x → R x) → Every P xs → Every Q xs
    → Every R xs
every_both P Q R [] f h k = tt
every_both P Q R (x ∷ xs) f h k = (f x h.0 k.0, every_both P Q R xs f h.1 k.1)

every_map : {X : Type 0} (P R : X → Type 0) (xs : List X) → ((x : X) → P x → R x) → Every P xs → Every R xs
every_map P R [] f h = tt
every_map P R (x ∷ xs) f h = (f x h.0, every_map P R xs f h.1)

module _ (face : Face) (all : List Tree) where
  -- ROOT BY ROOT

  abbrev RightAt : ℕ → ℕ → ℕ → Tree → Type 0
  RightAt r k n t = (k < n → IsRightUnder face all (spots face.boxes t (given_at face.boxes all r)))
      × (n ≤ k → Every (IsRightCell face all) (spots face.boxes t (given_at face.boxes all r)))

  are_from : (r n : ℕ) (ts : List Tree) → ((k : ℕ) (t : Tree) → slice_get ts k ≡ Some t → RightAt (r + k) k n t)
      → AreRight face all r n ts
  are_from r n [] h = tt
  are_from r zero (t ∷ ts) h = (
    subst (λ (m : ℕ). Every (IsRightCell face all) (spots face.boxes t (given_at face.boxes all m))) (omega arith)
        ((h 0 t refl).1 (omega arith)),
    are_from (suc r) zero ts (λ k u e. (
      (λ l. absurd (omega (arith, l))),
      (λ l. subst (λ (m : ℕ). Every (IsRightCell face all) (spots face.boxes u (given_at face.boxes all m)))
          (omega arith)
          ((h (suc k) u e).1 (omega arith))),
    )),
  )
  are_from r (suc n) (t ∷ ts) h = (
    subst (λ (m : ℕ). IsRightUnder face all (spots face.boxes t (given_at face.boxes all m))) (omega arith)
        ((h 0 t refl).0 (omega arith)),
    are_from (suc r) n ts (λ k u e. (
      (λ l. subst (λ (m : ℕ). IsRightUnder face all (spots face.boxes u (given_at face.boxes all m))) (omega arith)
          ((h (suc k) u e).0 (omega (arith, l)))),
      (λ l. subst (λ (m : ℕ). Every (IsRightCell face all) (spots face.boxes u (given_at face.boxes all m)))
          (omega arith)
          ((h (suc k) u e).1 (omega (arith, l)))),
    )),
  )

  are_to : (r n : ℕ) (ts : List Tree) → AreRight face all r n ts → (k : ℕ) (t : Tree) → slice_get ts k ≡ Some t
      → RightAt (r + k) k n t
  are_to r n [] h k t e = absurd (none-some t e)
  are_to r zero (u ∷ ts) h zero t e = (
    (λ l. absurd (omega (arith, l))),
    (λ l. subst (λ (m : ℕ). Every (IsRightCell face all) (spots face.boxes t (given_at face.boxes all m))) (omega arith)
        (subst (λ (v : Tree). Every (IsRightCell face all) (spots face.boxes v (given_at face.boxes all r)))
        (same_Some u t e) h.0)),
  )
  are_to r zero (u ∷ ts) h (suc k) t e = let g = are_to (suc r) zero ts h.1 k t e in (
    (λ l. absurd (omega (arith, l))),
    (λ l. subst (λ (m : ℕ). Every (IsRightCell face all) (spots face.boxes t (given_at face.boxes all m))) (omega arith)
        (g.1 (omega arith))),
  )
  are_to r (suc n) (u ∷ ts) h zero t e = (
    (λ l. subst (λ (m : ℕ). IsRightUnder face all (spots face.boxes t (given_at face.boxes all m))) (omega arith)
        (subst (λ (v : Tree). IsRightUnder face all (spots face.boxes v (given_at face.boxes all r)))
        (same_Some u t e) h.0)),
    (λ l. absurd (omega (arith, l))),
  )
  are_to r (suc n) (u ∷ ts) h (suc k) t e = let g = are_to (suc r) n ts h.1 k t e in (
    (λ l. subst (λ (m : ℕ). IsRightUnder face all (spots face.boxes t (given_at face.boxes all m))) (omega arith)
        (g.0 (omega (arith, l)))),
    (λ l. subst (λ (m : ℕ). Every (IsRightCell face all) (spots face.boxes t (given_at face.boxes all m))) (omega arith)
        (g.1 (omega (arith, l)))),
  )

  -- ONE ROOT

  abbrev rest : List Slot → Tree → List Spot
  rest ss t = flat_map (λ e. spots face.boxes e.1 (given_by face.boxes e.0)) (edges ss (out-Tree t).children)

  -- no cell at the top: no cells
  no_spots : (t : Tree) (above : List ℕ) (y : Symbol) → (out-Tree t).symbol ≡ y
      → spots_at face.boxes y (with_spots face.boxes (out-Tree t).children) above ≡ [] → spots face.boxes t above ≡ []
  no_spots t above y d k = spots_out face.boxes t above
      ∙ ap (λ (z : Symbol). spots_at face.boxes z (with_spots face.boxes (out-Tree t).children) above) d ∙ k

  module _ (k n : ℕ) (t : Tree) (at : slice_get all k ≡ Some t) where
    above : List ℕ
    above = given_at face.boxes all k

    right_leaf : spots face.boxes t (given_at face.boxes all k) ≡ [] → RightAt k k n t
    right_leaf e = (
      (λ l. subst (IsRightUnder face all) (sym e) tt),
      (λ l. subst (Every (IsRightCell face all)) (sym e) tt),
    )

    right_cell : (s : ℕ) (ds : List Datum) (ss : List Slot) → (out-Tree t).symbol ≡ Cell s ds ss
        → IsShapedRoot face k all → IsOnceRoot face k all → ((f : ℕ) → IsGivenRight face (nat_lt k n) k f all)
        → RightAt k k n t
    right_cell s ds ss d shaped once given = (
      (λ l. subst (IsRightUnder face all) (sym whole) (
        record {
          ends = parts.0.ends;
          order = parts.0.order;
          once = often_distinct _ (λ f. port_fits (nat_lt k n) (is_port l) f (given f t s ds ss at d));
        },
        below,
      )),
      (λ l. subst (Every (IsRightCell face all)) (sym whole) (
        record {
          ends = parts.0.ends;
          order = parts.0.order;
          once = alike _ _ (λ f. sym (inner_fits (nat_lt k n) (is_inner l) f (given f t s ds ss at d)));
        },
        below,
      )),
    )
      where
        whole : spots face.boxes t (given_at face.boxes all k)
            ≡ spot s ss (map top_symbol (out-Tree t).children) (given_at face.boxes all k) ∷ rest ss t
        whole = cell_spots face.boxes t (given_at face.boxes all k) s ds ss d

        parts : Every (IsShapedSpot face all) (spot s ss (map top_symbol (out-Tree t).children) [] ∷ rest ss t)
        parts = subst (Every (IsShapedSpot face all)) (cell_spots face.boxes t [] s ds ss d) (shaped t at)

        below : Every (IsRightCell face all) (rest ss t)
        below = every_both (IsShapedSpot face all) (IsOnceSpot face) (IsRightCell face all) (rest ss t)
            (λ p h g. record { ends = h.ends; order = h.order; once = g }) parts.1
            (every_flat face.boxes (IsOnceSpot face) (edges ss (out-Tree t).children) (once t s ds ss at d))

        is_port : k < n → nat_lt k n ≡ true
        is_port l = here (nat_lt k n) refl
          where
            here : (b : Bool) → nat_lt k n ≡ b → b ≡ true
            here true e = refl
            here false e = let g = ltb-false k n e in absurd (omega (arith, g, l))

        is_inner : n ≤ k → nat_lt k n ≡ false
        is_inner l = here (nat_lt k n) refl
          where
            here : (b : Bool) → nat_lt k n ≡ b → b ≡ false
            here true e = let g = ltb-true k n e in absurd (omega (arith, g, l))
            here false e = refl

        port_fits : (b : Bool) → b ≡ true → (f : ℕ)
            → Fits b (often f (fields_of face.shapes.structs s))
            (often f (flat_map (covers face.boxes) ss ++ given_at face.boxes all k))
            → often f (flat_map (covers face.boxes) ss ++ given_at face.boxes all k) ≤ 1
        port_fits true e f h = h
        port_fits false e f h = absurd (true≢false (sym e))

        inner_fits : (b : Bool) → b ≡ false → (f : ℕ)
            → Fits b (often f (fields_of face.shapes.structs s))
            (often f (flat_map (covers face.boxes) ss ++ given_at face.boxes all k))
            → often f (flat_map (covers face.boxes) ss ++ given_at face.boxes all k)
            ≡ often f (fields_of face.shapes.structs s)
        inner_fits true e f h = absurd (true≢false e)
        inner_fits false e f h = h

    pub right_from : IsShapedRoot face k all → IsOnceRoot face k all
        → ((f : ℕ) → IsGivenRight face (nat_lt k n) k f all) → RightAt k k n t
    right_from shaped once given = here (out-Tree t).symbol refl
      where
        here : (y : Symbol) → (out-Tree t).symbol ≡ y → RightAt k k n t
        here Null d = right_leaf (no_spots t (given_at face.boxes all k) Null d refl)
        here Uninit d = right_leaf (no_spots t (given_at face.boxes all k) Uninit d refl)
        here Dangling d = right_leaf (no_spots t (given_at face.boxes all k) Dangling d refl)
        here (Ref m) d = right_leaf (no_spots t (given_at face.boxes all k) (Ref m) d refl)
        here (Cell s ds ss) d = right_cell s ds ss d shaped once given

    -- what is right of the cells, whether the root is a port or not
    abbrev Known : ℕ → List Slot → Type 0
    Known s ss = IsShapedSpot face all (spot s ss (map top_symbol (out-Tree t).children) (given_at face.boxes all k))
        × Every (IsRightCell face all) (rest ss t)
        × ((f : ℕ) → Fits (nat_lt k n) (often f (fields_of face.shapes.structs s))
        (often f (flat_map (covers face.boxes) ss ++ given_at face.boxes all k)))

    known : (s : ℕ) (ds : List Datum) (ss : List Slot) → (out-Tree t).symbol ≡ Cell s ds ss → RightAt k k n t
        → Known s ss
    known s ds ss d h = here (nat_lt k n) refl
      where
        whole : spots face.boxes t (given_at face.boxes all k)
            ≡ spot s ss (map top_symbol (out-Tree t).children) (given_at face.boxes all k) ∷ rest ss t
        whole = cell_spots face.boxes t (given_at face.boxes all k) s ds ss d

        here : (b : Bool) → nat_lt k n ≡ b
            → IsShapedSpot face all (spot s ss (map top_symbol (out-Tree t).children) (given_at face.boxes all k))
            × Every (IsRightCell face all) (rest ss t)
            × ((f : ℕ) → Fits b (often f (fields_of face.shapes.structs s))
            (often f (flat_map (covers face.boxes) ss ++ given_at face.boxes all k)))
        here true e = let g = subst (IsRightUnder face all) whole (h.0 (ltb-true k n e)) in
            (record { ends = g.0.ends; order = g.0.order }, g.1, distinct_often _ g.0.once)
        here false e = let g = subst (Every (IsRightCell face all)) whole (h.1 (ltb-false k n e)) in
            (record { ends = g.0.ends; order = g.0.order }, g.1, λ f. sym (often_same f g.0.once))

    pub shaped_of : RightAt k k n t → Every (IsShapedSpot face all) (spots face.boxes t [])
    shaped_of h = here (out-Tree t).symbol refl
      where
        here : (y : Symbol) → (out-Tree t).symbol ≡ y → Every (IsShapedSpot face all) (spots face.boxes t [])
        here Null d = subst (Every (IsShapedSpot face all)) (sym (no_spots t [] Null d refl)) tt
        here Uninit d = subst (Every (IsShapedSpot face all)) (sym (no_spots t [] Uninit d refl)) tt
        here Dangling d = subst (Every (IsShapedSpot face all)) (sym (no_spots t [] Dangling d refl)) tt
        here (Ref m) d = subst (Every (IsShapedSpot face all)) (sym (no_spots t [] (Ref m) d refl)) tt
        here (Cell s ds ss) d = let g = known s ds ss d h in
            subst (Every (IsShapedSpot face all)) (sym (cell_spots face.boxes t [] s ds ss d)) (
              record { ends = g.0.ends; order = g.0.order },
              every_map (IsRightCell face all) (IsShapedSpot face all) (rest ss t)
                  (λ p w. record { ends = w.ends; order = w.order }) g.1,
            )

    pub once_of : RightAt k k n t → (s : ℕ) (ds : List Datum) (ss : List Slot) → (out-Tree t).symbol ≡ Cell s ds ss
        → Every (λ (e : Slot × Tree). Every (IsOnceSpot face) (spots face.boxes e.1 (given_by face.boxes e.0)))
        (edges ss (out-Tree t).children)
    once_of h s ds ss d = let g = known s ds ss d h in
        flat_every face.boxes (IsOnceSpot face) (edges ss (out-Tree t).children)
        (every_map (IsRightCell face all) (IsOnceSpot face) (rest ss t) (λ p w. w.once) g.1)

    pub given_of : RightAt k k n t → (f s : ℕ) (ds : List Datum) (ss : List Slot) → (out-Tree t).symbol ≡ Cell s ds ss
        → Fits (nat_lt k n) (often f (fields_of face.shapes.structs s))
        (often f (flat_map (covers face.boxes) ss ++ given_at face.boxes all k))
    given_of h f s ds ss d = (known s ds ss d h).2 f

  at_zero : (k n : ℕ) (t : Tree) → RightAt (0 + k) k n t → RightAt k k n t
  at_zero k n t h = subst (λ (m : ℕ). RightAt m k n t) (omega arith) h

  zero_at : (k n : ℕ) (t : Tree) → RightAt k k n t → RightAt (0 + k) k n t
  zero_at k n t h = subst (λ (m : ℕ). RightAt m k n t) (omega arith) h

  inside_of : (ts : List Tree) (k : ℕ) (t : Tree) → slice_get ts k ≡ Some t → k < length ts
  inside_of [] k t e = absurd (none-some t e)
  inside_of (u ∷ ts) zero t e = omega arith
  inside_of (u ∷ ts) (suc k) t e = let l = inside_of ts k t e in omega (arith, l)

  pub all_right : (n : ℕ) → ((r : ℕ) → r < length all → IsShapedRoot face r all)
      → ((r : ℕ) → r < length all → IsOnceRoot face r all)
      → ((r f : ℕ) → r < length all → IsGivenRight face (nat_lt r n) r f all) → AreRight face all 0 n all
  all_right n a b c = are_from 0 n all (λ k t e. (let l = inside_of all k t e in
      zero_at k n t (right_from k n t e (a k l) (b k l) (λ f. c k f l))))

  pub right_shaped : (n : ℕ) → AreRight face all 0 n all → (r : ℕ) → IsShapedRoot face r all
  right_shaped n h r t e = shaped_of r n t e (at_zero r n t (are_to 0 n all h r t e))

  pub right_once : (n : ℕ) → AreRight face all 0 n all → (r : ℕ) → IsOnceRoot face r all
  right_once n h r t s ds ss e d = once_of r n t e (at_zero r n t (are_to 0 n all h r t e)) s ds ss d

  pub right_given : (n : ℕ) → AreRight face all 0 n all → (r f : ℕ) → IsGivenRight face (nat_lt r n) r f all
  right_given n h r f t s ds ss e d = given_of r n t e (at_zero r n t (are_to 0 n all h r t e)) f s ds ss d

module _ (face : Face) (n : ℕ) (autos : List Automaton) where
  abbrev Right : List Tree → Type 0
  Right ts = AreRight face ts 0 n ts

  pub not_shaped : ForAll autos (λ ts. (r : ℕ) → r < length autos → IsShapedRoot face r ts) false
      → ForAll autos Right false
  not_shaped (ts, c, g) = (ts, c, λ h. g (λ r l. right_shaped face ts n h r))

  pub not_once : ForAll autos (λ ts. (r : ℕ) → r < length autos → IsOnceRoot face r ts) false → ForAll autos Right false
  not_once (ts, c, g) = (ts, c, λ h. g (λ r l. right_once face ts n h r))

  pub cells_decide : ForAll autos (λ ts. (r : ℕ) → r < length autos → IsShapedRoot face r ts) true
      → ForAll autos (λ ts. (r : ℕ) → r < length autos → IsOnceRoot face r ts) true → (decided : Bool)
      → ForAll autos (λ ts. (r f : ℕ) → r < length autos → IsGivenRight face (nat_lt r n) r f ts) decided
      → ForAll autos Right decided
  cells_decide a b true g = λ ts c. (let l = choice_long autos ts c in all_right face ts n
      (λ r k. a ts c r (subst (λ (m : ℕ). r < m) (sym l) k)) (λ r k. b ts c r (subst (λ (m : ℕ). r < m) (sym l) k))
      (λ r f k. g ts c r f (subst (λ (m : ℕ). r < m) (sym l) k)))
  cells_decide a b false (ts, c, g) = (ts, c, λ h. g (λ r f l. right_given face ts n h r f))
