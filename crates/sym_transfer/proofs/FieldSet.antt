-- A pointer field of a store that is set: its pointer is a fact in front of others, which stay.
use Rattle.std.proofs.Common.{◌≡◌, ℕ, zero, suc, ◌+◌, Bool, true, false, nat_eq, if◌then◌else◌, List, [], ◌∷◌}
use Rattle.std.proofs.Common.{◌++◌, slice_get, slice_set, Some, refl, ap, ap₂, arith, zero-add}
use Rattle.std.proofs.lemmas.Bool.{eqb-true}
use Rattle.std.proofs.lemmas.Option.{none-some}
use Rattle.fore_base.specs.Stores.{with_field}
use Rattle.fore_base.specs.declared.store.CellRec.{CellRec}
use Rattle.fore_base.specs.declared.store.Value.{Value}
use Rattle.fa_core.specs.Dressed.{Fact, Head, Points}
use Rattle.fa_core.specs.Member.{points, cell_facts, store_facts}
use Rattle.fa_core.specs.Rearranged.{Rearranged, keep, swap, chain}
use Rattle.fa_core.proofs.Rearranging.{equal, after, before, middle}
use Rattle.c_cfg.specs.Edges.{field_of}
use Rattle.sym_transfer.proofs.CellSet.{with_cell}
use Rattle.sym_transfer.proofs.Places.{set_twice, set_same}

-- one field taken to the front, whatever its value
pub points_split : (c k j : ℕ) (vs : List Value) (v : Value) → slice_get vs j ≡ Some v → (R : List Fact)
    × ((w : Value) → Rearranged (points c k (slice_set vs j w)) (Points c (k + j) w ∷ R))
points_split c k j [] v e = absurd (none-some v e)
points_split c k zero (u ∷ vs) v e =
    (points c (suc k) vs, λ w. equal (ap (λ (n : ℕ). Points c n w ∷ points c (suc k) vs) (omega arith)))
points_split c k (suc j) (u ∷ vs) v e =
    let p = points_split c (suc k) j vs v e in (
      Points c k u ∷ p.0,
      λ w.
          chain (keep (Points c k u) (chain (p.1 w) (equal (ap (λ (n : ℕ). Points c n w ∷ p.0) (omega arith)))))
          (swap (Points c k u) (Points c (k + suc j) w) p.0),
    )

-- A pointer field that is set

-- its fact comes to the front, whatever its value, and the rest stays
pub store_split : (cs : List CellRec) (n f : ℕ) (v : Value) → field_of cs n f ≡ Some v → (R : List Fact)
    × ((w : Value) → Rearranged (store_facts (with_field cs n f w)) (Points n f w ∷ R))
store_split [] n f v e = absurd (none-some v e)
store_split (c ∷ cs) n f v e = here (nat_eq c.number n) refl e (store_split cs n f v)
  where
    Goal : Bool → Type 0
    Goal b = (R : List Fact)
        × ((w : Value) → Rearranged
        (store_facts (if b then record c { fields = slice_set c.fields f w } ∷ cs else c ∷ with_field cs n f w))
        (Points n f w ∷ R))

    here : (b : Bool) → nat_eq c.number n ≡ b → (if b then slice_get c.fields f else field_of cs n f) ≡ Some v
        → (field_of cs n f ≡ Some v → (R : List Fact)
        × ((w : Value) → Rearranged (store_facts (with_field cs n f w)) (Points n f w ∷ R))) → Goal b
    here true p q rest =
        let s = points_split c.number 0 f c.fields v q in
        let h = Head c.number c.shape c.datums in (
          h ∷ (s.0 ++ store_facts cs),
          λ w.
              chain
              (keep h
              (before (store_facts cs)
              (chain (s.1 w) (equal (ap₂ (λ (m j : ℕ). Points m j w ∷ s.0) (eqb-true c.number n p) (zero-add f))))))
              (swap h (Points n f w) (s.0 ++ store_facts cs)),
        )
    here false p q rest =
        let s = rest q in
        (cell_facts c ++ s.0, λ w. chain (after (cell_facts c) (s.1 w)) (middle (cell_facts c) (Points n f w) s.0))

pub with_field_same : (cs : List CellRec) (n f : ℕ) (v : Value) → field_of cs n f ≡ Some v → with_field cs n f v ≡ cs
with_field_same [] n f v e = refl
with_field_same (c ∷ cs) n f v e = here (nat_eq c.number n) e (with_field_same cs n f v)
  where
    here : (b : Bool) → (if b then slice_get c.fields f else field_of cs n f) ≡ Some v
        → (field_of cs n f ≡ Some v → with_field cs n f v ≡ cs)
        → (if b then record c { fields = slice_set c.fields f v } ∷ cs else c ∷ with_field cs n f v) ≡ c ∷ cs
    here true q rest = ap (λ (w : List Value). record c { fields = w } ∷ cs) (set_same c.fields f v q)
    here false q rest = ap (λ (w : List CellRec). c ∷ w) (rest q)

pub with_field_twice : (cs : List CellRec) (n f : ℕ) (v w : Value) → with_field (with_field cs n f v) n f w
    ≡ with_field cs n f w
with_field_twice [] n f v w = refl
with_field_twice (c ∷ cs) n f v w = here (nat_eq c.number n) refl (with_field_twice cs n f v w)
  where
    here : (b : Bool) → nat_eq c.number n ≡ b → with_field (with_field cs n f v) n f w ≡ with_field cs n f w
        → with_field (if b then record c { fields = slice_set c.fields f v } ∷ cs else c ∷ with_field cs n f v) n f w
        ≡ (if b then record c { fields = slice_set c.fields f w } ∷ cs else c ∷ with_field cs n f w)
    here true p rest = rw p (ap (λ (x : List Value). record c { fields = x } ∷ cs) (set_twice c.fields f v w))
    here false p rest = rw p (ap (λ (x : List CellRec). c ∷ x) rest)

-- the cell of the number is changed, and no other
pub field_cell : (cs : List CellRec) (n f : ℕ) (w : Value) → with_field cs n f w
    ≡ with_cell (λ c. record c { fields = slice_set c.fields f w }) cs n
field_cell [] n f w = refl
field_cell (c ∷ cs) n f w =
    ap (λ (es : List CellRec). if nat_eq c.number n then record c { fields = slice_set c.fields f w } ∷ cs else c ∷ es)
    (field_cell cs n f w)
