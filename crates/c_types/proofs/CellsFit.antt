-- Values that point to cells of their struct, and cells that fit their structs.
use Rattle.std.proofs.Common.{◌≡◌, ◌<◌, ℕ, zero, suc, Bool, true, false, nat_eq, if◌then◌else◌, inl, inr, Some, List}
use Rattle.std.proofs.Common.{[], ◌∷◌, length, length-set, get_or, map, replicate, ◌++◌, slice_get, slice_set}
use Rattle.std.proofs.Common.{slice_index_or, refl, sym, ◌∙◌, subst, true≢false, arith}
use Rattle.std.proofs.lemmas.Bool.{eqb-true, eq-eqb}
use Rattle.std.proofs.lemmas.Option.{slice_get_within, get_or_from_slice_get}
use Rattle.fore_base.specs.declared.shape.Shape.{Shape}
use Rattle.fore_base.specs.declared.store.Value.{Value}
use Rattle.fore_base.specs.declared.store.Value.TheVariants.{Uninit, Dangling, Cell}
use Rattle.fore_base.specs.declared.store.Datum.{Datum}
use Rattle.fore_base.specs.declared.store.CellRec.{CellRec}
use Rattle.fore_base.specs.Lists.{Every}
use Rattle.fore_base.specs.Stores.{set_each, field_in, with_field, with_datum, dangle, dangle_in, without}
use Rattle.fore_base.specs.Heap.{HasCell, NamesCell, AllDiffer}
use Rattle.fore_base.specs.Shapes.{targets_of}
use Rattle.c_types.specs.Fits.{HasCellOf, PointsTo, PointsToEach, CellFits}
use Rattle.c_types.proofs.CellsKept.{cell_of_is, without_cell_of}

-- t stands at the place i
abbrev pub IsAt : List ℕ → ℕ → ℕ → Type 0
IsAt [] i t = ⊥
IsAt (u ∷ us) zero t = u ≡ t
IsAt (u ∷ us) (suc i) t = IsAt us i t

at_place : (us : List ℕ) (i t : ℕ) → i < length us → get_or us i 0 ≡ t → IsAt us i t
at_place [] i t less e = absurd (omega (arith, less))
at_place (u ∷ us) zero t less e = e
at_place (u ∷ us) (suc i) t less e = at_place us i t (omega (arith, less)) e

pub is_at : (us : List ℕ) (i t : ℕ) → slice_get us i ≡ Some t → IsAt us i t
is_at us i t e = at_place us i t (slice_get_within us i t e) (get_or_from_slice_get us i t 0 e)

pub at_same : (us : List ℕ) (i t u : ℕ) → IsAt us i t → IsAt us i u → t ≡ u
at_same [] i t u a b = absurd a
at_same (v ∷ us) zero t u a b = sym a ∙ b
at_same (v ∷ us) (suc i) t u a b = at_same us i t u a b

pub length_set_each : {X : Type 0} (xs : List X) (ns : List ℕ) (x : X) → length (set_each xs ns x) ≡ length xs
length_set_each xs [] x = refl
length_set_each xs (n ∷ ns) x = length_set_each (slice_set xs n x) ns x ∙ length-set xs n x

-- Values

names : (cs : List CellRec) (t : ℕ) (v : Value) → PointsTo cs t v → NamesCell cs v
names cs t (Cell n) points = cell_of_is cs n t points
names cs t _ points = tt

pub names_each : (cs : List CellRec) (ts : List ℕ) (vs : List Value) → PointsToEach cs ts vs → Every (NamesCell cs) vs
names_each cs [] [] points = tt
names_each cs [] (v ∷ vs) points = absurd points
names_each cs (t ∷ ts) [] points = absurd points
names_each cs (t ∷ ts) (v ∷ vs) points = (names cs t v points.0, names_each cs ts vs points.1)

pub get_points : (cs : List CellRec) (ts : List ℕ) (vs : List Value) (i t : ℕ) → PointsToEach cs ts vs → IsAt ts i t
    → PointsTo cs t (slice_index_or vs i Uninit)
get_points cs [] vs i t points at = absurd at
get_points cs (u ∷ ts) [] i t points at = absurd points
get_points cs (u ∷ ts) (v ∷ vs) zero t points at = subst (λ k. PointsTo cs k v) at points.0
get_points cs (u ∷ ts) (v ∷ vs) (suc i) t points at = get_points cs ts vs i t points.1 at

pub set_points : (cs : List CellRec) (ts : List ℕ) (vs : List Value) (i : ℕ) (v : Value)
    → ((t : ℕ) → IsAt ts i t → PointsTo cs t v) → PointsToEach cs ts vs → PointsToEach cs ts (slice_set vs i v)
set_points cs [] [] i v this points = points
set_points cs [] (w ∷ vs) i v this points = absurd points
set_points cs (u ∷ ts) [] i v this points = absurd points
set_points cs (u ∷ ts) (w ∷ vs) zero v this points = (this u refl, points.1)
set_points cs (u ∷ ts) (w ∷ vs) (suc i) v this points = (points.0, set_points cs ts vs i v this points.1)

pub dead_points : (cs : List CellRec) (ts : List ℕ) (vs : List Value) (ns : List ℕ) → PointsToEach cs ts vs
    → PointsToEach cs ts (set_each vs ns Uninit)
dead_points cs ts vs [] points = points
dead_points cs ts vs (n ∷ ns) points =
    dead_points cs ts (slice_set vs n Uninit) ns (set_points cs ts vs n Uninit (λ t at. tt) points)

pub unset_points : (cs : List CellRec) (ts : List ℕ) → PointsToEach cs ts (replicate (length ts) Uninit)
unset_points cs [] = tt
unset_points cs (t ∷ ts) = (tt, unset_points cs ts)

dangle_points : (n t : ℕ) (cs : List CellRec) (v : Value) → PointsTo cs t v → PointsTo (without n cs) t (dangle n v)
dangle_points n t cs (Cell m) points = here (nat_eq m n) refl
  where
    here : (b : Bool) → nat_eq m n ≡ b → PointsTo (without n cs) t (if b then Dangling else Cell m)
    here true is = tt
    here false is = without_cell_of n m t cs is points
dangle_points n t cs _ points = tt

pub dangle_points_each : (n : ℕ) (cs : List CellRec) (ts : List ℕ) (vs : List Value) → PointsToEach cs ts vs
    → PointsToEach (without n cs) ts (map (dangle n) vs)
dangle_points_each n cs [] [] points = tt
dangle_points_each n cs [] (v ∷ vs) points = absurd points
dangle_points_each n cs (t ∷ ts) [] points = absurd points
dangle_points_each n cs (t ∷ ts) (v ∷ vs) points =
    (dangle_points n t cs v points.0, dangle_points_each n cs ts vs points.1)

-- Where cells of one list are among those of another, what points to the first points to the second.

module _ (cs ds : List CellRec) (kept : (m t : ℕ) → HasCellOf cs m t → HasCellOf ds m t) where
  pub points_moved : (t : ℕ) (v : Value) → PointsTo cs t v → PointsTo ds t v
  points_moved t (Cell n) points = kept n t points
  points_moved t _ points = tt

  pub each_moved : (ts : List ℕ) (vs : List Value) → PointsToEach cs ts vs → PointsToEach ds ts vs
  each_moved [] [] points = tt
  each_moved [] (v ∷ vs) points = absurd points
  each_moved (t ∷ ts) [] points = absurd points
  each_moved (t ∷ ts) (v ∷ vs) points = (points_moved t v points.0, each_moved ts vs points.1)

  pub cells_moved : (shapes : List Shape) (es : List CellRec) → Every (CellFits shapes cs) es
      → Every (CellFits shapes ds) es
  cells_moved shapes [] fit = tt
  cells_moved shapes (e ∷ es) fit = (
    record {
      shape = fit.0.shape;
      fields = each_moved (targets_of shapes e.shape) e.fields fit.0.fields;
      datums = fit.0.datums;
    },
    cells_moved shapes es fit.1,
  )

-- Cells

-- where numbers differ, the first cell of a number is the one of its struct
pub first_shape : (c : CellRec) (es : List CellRec) (n shape : ℕ) → c.number ≡ n → AllDiffer (c ∷ es)
    → HasCellOf (c ∷ es) n shape → c.shape ≡ shape
first_shape c es n shape same apart (inl e) = e.1
first_shape c es n shape same apart (inr has) =
    absurd (apart.0 (subst (HasCell es) (sym same) (cell_of_is es n shape has)))

pub not_first : (c : CellRec) (es : List CellRec) (n shape : ℕ) → nat_eq c.number n ≡ false → HasCellOf (c ∷ es) n shape
    → HasCellOf es n shape
not_first c es n shape other (inl e) = absurd (true≢false (sym (eq-eqb c.number n e.0) ∙ other))
not_first c es n shape other (inr has) = has

module _ (shapes : List Shape) (cs : List CellRec) where
  pub field_points : (es : List CellRec) (n shape f t : ℕ) → AllDiffer es → Every (CellFits shapes cs) es
      → HasCellOf es n shape → IsAt (targets_of shapes shape) f t → PointsTo cs t (field_in es n f)
  field_points [] n shape f t apart fit has at = absurd has
  field_points (c ∷ es) n shape f t apart fit has at =
      here (nat_eq c.number n) refl (λ later. field_points es n shape f t apart.1 fit.1 later at)
    where
      here : (b : Bool) → nat_eq c.number n ≡ b → (HasCellOf es n shape → PointsTo cs t (field_in es n f))
          → PointsTo cs t (if b then slice_index_or c.fields f Uninit else field_in es n f)
      here true is rest = get_points cs (targets_of shapes c.shape) c.fields f t fit.0.fields
          (subst (λ k. IsAt (targets_of shapes k) f t)
          (sym (first_shape c es n shape (eqb-true c.number n is) apart has)) at)
      here false is rest = rest (not_first c es n shape is has)

  pub with_fits : (es : List CellRec) (n shape f : ℕ) (v : Value)
      → ((t : ℕ) → IsAt (targets_of shapes shape) f t → PointsTo cs t v) → AllDiffer es → HasCellOf es n shape
      → Every (CellFits shapes cs) es → Every (CellFits shapes cs) (with_field es n f v)
  with_fits [] n shape f v this apart has fit = tt
  with_fits (c ∷ es) n shape f v this apart has fit =
      here (nat_eq c.number n) refl (λ later. with_fits es n shape f v this apart.1 later fit.1)
    where
      here : (b : Bool) → nat_eq c.number n ≡ b
          → (HasCellOf es n shape → Every (CellFits shapes cs) (with_field es n f v))
          → Every (CellFits shapes cs)
          (if b then record c { fields = slice_set c.fields f v } ∷ es else c ∷ with_field es n f v)
      here true is rest =
          let same : c.shape ≡ shape = first_shape c es n shape (eqb-true c.number n is) apart has in (
            record {
              shape = fit.0.shape;
              fields = set_points cs (targets_of shapes c.shape) c.fields f v
                  (λ t at. this t (subst (λ k. IsAt (targets_of shapes k) f t) same at)) fit.0.fields;
              datums = fit.0.datums;
            },
            fit.1,
          )
      here false is rest = (fit.0, rest (not_first c es n shape is has))

  pub with_datum_fits : (n f : ℕ) (d : Datum) (es : List CellRec) → Every (CellFits shapes cs) es
      → Every (CellFits shapes cs) (with_datum es n f d)
  with_datum_fits n f d [] fit = tt
  with_datum_fits n f d (c ∷ es) fit = here (nat_eq c.number n) (with_datum_fits n f d es fit.1)
    where
      here : (b : Bool) → Every (CellFits shapes cs) (with_datum es n f d)
          → Every (CellFits shapes cs)
          (if b then record c { datums = slice_set c.datums f d } ∷ es else c ∷ with_datum es n f d)
      here true rest = (
        record { shape = fit.0.shape; fields = fit.0.fields; datums = length-set c.datums f d ∙ fit.0.datums },
        fit.1,
      )
      here false rest = (fit.0, rest)

  pub without_fits : (n : ℕ) (es : List CellRec) → Every (CellFits shapes cs) es
      → Every (CellFits shapes (without n cs)) (without n es)
  without_fits n [] fit = tt
  without_fits n (c ∷ es) fit = here (nat_eq c.number n) (without_fits n es fit.1)
    where
      here : (b : Bool) → Every (CellFits shapes (without n cs)) (without n es)
          → Every (CellFits shapes (without n cs)) (if b then without n es else dangle_in n c ∷ without n es)
      here true rest = rest
      here false rest = (
        record {
          shape = fit.0.shape;
          fields = dangle_points_each n cs (targets_of shapes c.shape) c.fields fit.0.fields;
          datums = fit.0.datums;
        },
        rest,
      )

  pub append_fits : (es : List CellRec) (c : CellRec) → CellFits shapes cs c → Every (CellFits shapes cs) es
      → Every (CellFits shapes cs) (es ++ c ∷ [])
  append_fits [] c this fit = (this, tt)
  append_fits (e ∷ es) c this fit = (fit.0, append_fits es c this fit.1)
