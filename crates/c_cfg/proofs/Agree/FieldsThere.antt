-- In a store that fits a program, a cell has the fields of its struct, and what stands in them is of the declared
-- struct.
use Rattle.std.proofs.Common.{◌≡◌, ◌<◌, ℕ, zero, suc, Bool, true, false, nat_eq, if◌then◌else◌, Some, List}
use Rattle.std.proofs.Common.{[], ◌∷◌, slice_get, slice_index_or, refl, sym, ap, subst, arith}
use Rattle.std.proofs.lemmas.Bool.{eqb-true, eq-eqb}
use Rattle.std.proofs.lemmas.Option.{slice_get-get_or}
use Rattle.fore_base.specs.declared.shape.Shape.{Shape}
use Rattle.fore_base.specs.declared.store.Value.{Value}
use Rattle.fore_base.specs.declared.store.Value.TheVariants.{Uninit, Cell}
use Rattle.fore_base.specs.declared.store.Datum.TheVariants.{Undefined}
use Rattle.fore_base.specs.declared.store.CellRec.{CellRec}
use Rattle.fore_base.specs.Lists.{Every}
use Rattle.fore_base.specs.Stores.{field_in, datum_in}
use Rattle.fore_base.specs.Heap.{AllDiffer}
use Rattle.fore_base.specs.Shapes.{targets_of, datums_of}
use Rattle.c_types.specs.Fits.{HasCellOf, PointsTo, PointsToEach, CellFits}
use Rattle.c_types.proofs.CellsFit.{IsAt, first_shape, not_first}
use Rattle.c_cfg.specs.Edges.{field_of, datum_field_of, struct_of, may_stand}

at_is : (ts : List ℕ) (i t : ℕ) → IsAt ts i t → slice_get ts i ≡ Some t
at_is [] i t at = absurd at
at_is (u ∷ ts) zero t at = ap Some at
at_is (u ∷ ts) (suc i) t at = at_is ts i t at

value_there : (cs : List CellRec) (ts : List ℕ) (vs : List Value) (i t : ℕ) → PointsToEach cs ts vs → IsAt ts i t
    → slice_get vs i ≡ Some (slice_index_or vs i Uninit)
value_there cs [] vs i t points at = absurd at
value_there cs (u ∷ ts) [] i t points at = absurd points
value_there cs (u ∷ ts) (v ∷ vs) zero t points at = refl
value_there cs (u ∷ ts) (v ∷ vs) (suc i) t points at = value_there cs ts vs i t points.1 at

pub struct_there : (cs : List CellRec) (n t : ℕ) → AllDiffer cs → HasCellOf cs n t → struct_of cs n ≡ Some t
struct_there [] n t apart has = absurd has
struct_there (c ∷ cs) n t apart has = here (nat_eq c.number n) refl (struct_there cs n t apart.1)
  where
    here : (b : Bool) → nat_eq c.number n ≡ b → (HasCellOf cs n t → struct_of cs n ≡ Some t)
        → (if b then Some c.shape else struct_of cs n) ≡ Some t
    here true is rest = ap Some (first_shape c cs n t (eqb-true c.number n is) apart has)
    here false is rest = rest (not_first c cs n t is has)

module _ (shapes : List Shape) (all : List CellRec) where
  pub field_there : (cs : List CellRec) (n t f k : ℕ) → AllDiffer cs → Every (CellFits shapes all) cs → HasCellOf cs n t
      → IsAt (targets_of shapes t) f k → field_of cs n f ≡ Some (field_in cs n f)
  field_there [] n t f k apart fit has at = absurd has
  field_there (c ∷ cs) n t f k apart fit has at =
      here (nat_eq c.number n) refl (λ has. field_there cs n t f k apart.1 fit.1 has at)
    where
      here : (b : Bool) → nat_eq c.number n ≡ b → (HasCellOf cs n t → field_of cs n f ≡ Some (field_in cs n f))
          → (if b then slice_get c.fields f else field_of cs n f)
          ≡ Some (if b then slice_index_or c.fields f Uninit else field_in cs n f)
      here true is rest =
          value_there all (targets_of shapes c.shape) c.fields f k fit.0.fields
          (subst (λ s. IsAt (targets_of shapes s) f k)
          (sym (first_shape c cs n t (eqb-true c.number n is) apart has)) at)
      here false is rest = rest (not_first c cs n t is has)

  pub datum_there : (cs : List CellRec) (n t f : ℕ) → AllDiffer cs → Every (CellFits shapes all) cs → HasCellOf cs n t
      → f < datums_of shapes t → datum_field_of cs n f ≡ Some (datum_in cs n f)
  datum_there [] n t f apart fit has less = absurd has
  datum_there (c ∷ cs) n t f apart fit has less =
      here (nat_eq c.number n) refl (λ has. datum_there cs n t f apart.1 fit.1 has less)
    where
      here : (b : Bool) → nat_eq c.number n ≡ b → (HasCellOf cs n t → datum_field_of cs n f ≡ Some (datum_in cs n f))
          → (if b then slice_get c.datums f else datum_field_of cs n f)
          ≡ Some (if b then slice_index_or c.datums f Undefined else datum_in cs n f)
      here true is rest =
          let same : datums_of shapes c.shape ≡ datums_of shapes t =
          ap (datums_of shapes) (first_shape c cs n t (eqb-true c.number n is) apart has) in
          slice_get-get_or c.datums f Undefined (omega (arith, less, same, fit.0.datums))
      here false is rest = rest (not_first c cs n t is has)

-- a value of the declared struct may stand in a field
pub stands_there : (shapes : List Shape) (cs : List CellRec) (n t f k : ℕ) (v : Value) → AllDiffer cs → HasCellOf cs n t
    → IsAt (targets_of shapes t) f k → PointsTo cs k v → may_stand shapes cs n f v ≡ true
stands_there shapes cs n t f k (Cell m) apart has at points =
    rw (struct_there cs m k apart points, struct_there cs n t apart has, at_is (targets_of shapes t) f k at)
    (eq-eqb k k refl)
stands_there shapes cs n t f k _ apart has at points = refl
