-- What the edges that follow a pointer do, on a store that fits a program and has temporaries.
use Rattle.std.proofs.Common.{◌≡◌, ◌<◌, ℕ, Ok, refl, ap, ◌∙◌, subst}
use Rattle.fore_base.specs.declared.store.Value.{Value}
use Rattle.fore_base.specs.declared.store.Value.TheVariants.{Null, Cell}
use Rattle.fore_base.specs.declared.store.Datum.{Datum}
use Rattle.fore_base.specs.declared.store.Datum.TheVariants.{Known}
use Rattle.fore_base.specs.declared.store.Store.{Store}
use Rattle.fore_base.specs.Stores.{var_of, datum_of, set_var, set_datum, load, load_datum, store_at, store_datum}
use Rattle.fore_base.specs.Stores.{field_in}
use Rattle.fore_base.specs.Shapes.{targets_of, datums_of}
use Rattle.c_types.specs.Program.{Program}
use Rattle.c_types.specs.Fits.{PointsTo}
use Rattle.c_types.proofs.CellsFit.{IsAt, field_points}
use Rattle.c_types.proofs.Fitting.{Sound}
use Rattle.c_cfg.specs.declared.graph.Const.TheVariants.{Null as ConstNull, Known as ConstKnown}
use Rattle.c_cfg.specs.declared.graph.Instr.TheVariants.{LoadPtr, StorePtr, StoreConst, LoadData, StoreData}
use Rattle.c_cfg.specs.Edges.{Passed, onto, raw_step, field_of, datum_field_of}
use Rattle.c_cfg.proofs.Agree.Temporaries.{ext}
use Rattle.c_cfg.proofs.Agree.FieldsThere.{field_there, datum_there, stands_there}

module _ (p : Program) (s : Store) (sound : Sound p s) where
  -- what an arrow leads to is of the declared struct
  pub load_points : (w v : Value) (t f k : ℕ) → PointsTo s.cells t w → IsAt (targets_of p.shapes.structs t) f k
      → load s w f ≡ Ok v → PointsTo s.cells k v
  load_points (Cell n) v t f k points at e =
      let same : field_in s.cells n f ≡ v = cc in
      subst (PointsTo s.cells k) same
      (field_points p.shapes.structs s.cells s.cells n t f k sound.differ sound.cells points at)
  load_points _ v t f k points at e = cc

  module _ (g : Store) (cells : g.cells ≡ s.cells) where
    pub load_raw : (x b f t k : ℕ) (w : Value) → var_of g b ≡ w → PointsTo s.cells t w
        → IsAt (targets_of p.shapes.structs t) f k → raw_step p.shapes.structs (LoadPtr x b f) 0 g
        ≡ onto (load s w f) (λ v. Passed (set_var g x v))
    load_raw x b f t k (Cell n) holds points at =
        let there : field_of g.cells n f ≡ _ = ap (λ cs. field_of cs n f) cells
        ∙ field_there p.shapes.structs s.cells s.cells n t f k sound.differ sound.cells points at in
        rw (holds, there) refl
    load_raw x b f t k _ holds points at = rw holds refl

    pub load_datum_raw : (x b f t : ℕ) (w : Value) → var_of g b ≡ w → PointsTo s.cells t w
        → f < datums_of p.shapes.structs t → raw_step p.shapes.structs (LoadData x b f) 0 g
        ≡ onto (load_datum s w f) (λ d. Passed (set_datum g x d))
    load_datum_raw x b f t (Cell n) holds points less =
        let there : datum_field_of g.cells n f ≡ _ = ap (λ cs. datum_field_of cs n f) cells
        ∙ datum_there p.shapes.structs s.cells s.cells n t f sound.differ sound.cells points less in
        rw (holds, there) refl
    load_datum_raw x b f t _ holds points less = rw holds refl

  module _ (x y : Value) (d e : Datum) where
    pub store_raw : (b f from t k : ℕ) (w v : Value) → var_of (ext s x y d e) b ≡ w → var_of (ext s x y d e) from ≡ v
        → PointsTo s.cells t w → IsAt (targets_of p.shapes.structs t) f k → PointsTo s.cells k v
        → raw_step p.shapes.structs (StorePtr b f from) 0 (ext s x y d e)
        ≡ onto (store_at s w f v) (λ u. Passed (ext u x y d e))
    store_raw b f from t k (Cell n) v holds gives points at stands =
        rw (
          holds,
          gives,
          field_there p.shapes.structs s.cells s.cells n t f k sound.differ sound.cells points at,
          stands_there p.shapes.structs s.cells n t f k v sound.differ points at stands,
        ) refl
    store_raw b f from t k _ v holds gives points at stands = rw holds refl

    pub store_null_raw : (b f t k : ℕ) (w : Value) → var_of (ext s x y d e) b ≡ w → PointsTo s.cells t w
        → IsAt (targets_of p.shapes.structs t) f k
        → raw_step p.shapes.structs (StoreConst b f ConstNull) 0 (ext s x y d e)
        ≡ onto (store_at s w f Null) (λ u. Passed (ext u x y d e))
    store_null_raw b f t k (Cell n) holds points at =
        rw (holds, field_there p.shapes.structs s.cells s.cells n t f k sound.differ sound.cells points at) refl
    store_null_raw b f t k _ holds points at = rw holds refl

    pub store_datum_raw : (b f from t : ℕ) (w : Value) (v : Datum) → var_of (ext s x y d e) b ≡ w
        → datum_of (ext s x y d e) from ≡ v → PointsTo s.cells t w → f < datums_of p.shapes.structs t
        → raw_step p.shapes.structs (StoreData b f from) 0 (ext s x y d e)
        ≡ onto (store_datum s w f v) (λ u. Passed (ext u x y d e))
    store_datum_raw b f from t (Cell n) v holds gives points less =
        rw (holds, gives, datum_there p.shapes.structs s.cells s.cells n t f sound.differ sound.cells points less) refl
    store_datum_raw b f from t _ v holds gives points less = rw holds refl

    pub store_known_raw : (b f k t : ℕ) (w : Value) → var_of (ext s x y d e) b ≡ w → PointsTo s.cells t w
        → f < datums_of p.shapes.structs t
        → raw_step p.shapes.structs (StoreConst b f (ConstKnown k)) 0 (ext s x y d e)
        ≡ onto (store_datum s w f (Known k)) (λ u. Passed (ext u x y d e))
    store_known_raw b f k t (Cell n) holds points less =
        rw (holds, datum_there p.shapes.structs s.cells s.cells n t f sound.differ sound.cells points less) refl
    store_known_raw b f k t _ holds points less = rw holds refl
