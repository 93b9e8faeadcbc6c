-- What the calls that store make is what the members become.
use Rattle.std.proofs.Common.{◌≡◌, inl, inr, ℕ, true, true≢false, List, [], length, Option, Some, None, refl, sym, ap}
use Rattle.std.specs.Option.{MatchOption, is_some}
use Rattle.fore_base.specs.Lists.{Every}
use Rattle.fore_base.specs.Stores.{var_of}
use Rattle.fore_base.specs.declared.store.Datum.{Datum}
use Rattle.fore_base.specs.declared.store.Datum.TheVariants.{Known}
use Rattle.fore_base.specs.declared.store.Value.TheVariants.{Null as NullValue}
use Rattle.fa_core.specs.Boxless.{HasNoBoxes}
use Rattle.fa_core.specs.declared.boxes.BoxDef.{BoxDef}
use Rattle.fa_core.specs.declared.forest.Target.{Target}
use Rattle.fa_core.specs.declared.forest.Target.TheVariants.{Null, At}
use Rattle.fa_sound.specs.Soundness.{SoundForest}
use Rattle.fa_edit.specs.Data.{IsDatumPut}
use Rattle.fa_edit.specs.Leaves.{IsPut}
use Rattle.c_cfg.specs.declared.graph.Const.TheVariants.{Null as ConstNull, Known as ConstKnown}
use Rattle.c_cfg.specs.declared.graph.Instr.TheVariants.{StorePtr, StoreConst, StoreData}
use Rattle.sym_core.specs.Explicit.{target_at}
use Rattle.sym_transfer.specs.Edited.{Becomes, HasForm}
use Rattle.sym_transfer.specs.inner.Targets.{datum_at}
use Rattle.sym_transfer.specs.declared.outcome.Edited.{Edited}
use Rattle.sym_transfer.specs.declared.outcome.Edited.TheVariants.{Fault, Stays, Goes}
use Rattle.sym_transfer.specs.inner.Parts.{IsDatumStored, IsLeafStored}
use Rattle.sym_transfer.specs.inner.Tops.{HasTop, IsTopped}
use Rattle.sym_transfer.proofs.Carrying.{var_is}
use Rattle.sym_transfer.proofs.DataKinds.{store_data, store_known, store_data_stays, store_known_stays}
use Rattle.sym_transfer.proofs.Fitting.{leaf_stands}
use Rattle.sym_transfer.proofs.PtrKinds.{store_ptr, store_null}
use Rattle.sym_transfer.proofs.PtrStays.{ptr_stays, unfit_stays}

-- what is told of an answer that is there
pub held_there : {A : Type 0} (P : Type 0) (Q : A → Type 0) (q : Option A) → is_some q ≡ true → MatchOption q P Q
    → (a : A) × Q a
held_there P Q (Some a) e h = (a, h)
held_there P Q None e h = absurd (true≢false (sym e))

-- the form of a forest with another leaf or datum
pub put_form : (F R : SoundForest) (r f : ℕ) (t u : Target) → R.face ≡ F.face
    → (Every HasNoBoxes F.forest.autos → Every HasNoBoxes R.forest.autos) → IsPut [] F.forest R.forest r f t u
    → HasForm F R
put_form F R r f t u face plain p =
    record { face = face; plain = plain; vars = ap length p.vars; data_vars = ap length p.data_vars }

pub datum_form : (F R : SoundForest) (r f : ℕ) (y z : Datum) → R.face ≡ F.face
    → (Every HasNoBoxes F.forest.autos → Every HasNoBoxes R.forest.autos) → IsDatumPut [] F.forest R.forest r f y z
    → HasForm F R
datum_form F R r f y z face plain p =
    record { face = face; plain = plain; vars = ap length p.vars; data_vars = ap length p.data_vars }

module _ (F : SoundForest) (T : List BoxDef) (x b f r : ℕ) (at : target_at F.forest b ≡ At r) where
  module _ (top : HasTop F.forest r) where
    pub ptr_stored : (v : ℕ) → IsTopped F.forest (target_at F.forest v) → (made : Edited)
        → IsLeafStored F r f (target_at F.forest v) made → Becomes F.face T F.forest (StorePtr b f v) x made
    ptr_stored v g (Fault k) h = absurd h
    ptr_stored v g Stays (inl l) =
        inl (ptr_stays F.face T F.forest r f (StorePtr b f v) x b at (λ s. var_of s v) (λ s. refl) top l)
    ptr_stored v g Stays (inr never) =
        inl
        (unfit_stays F.face T F.forest r f (StorePtr b f v) x b at (λ s. var_of s v) (λ s. refl)
        (target_at F.forest v) (λ d cs next. var_is d F.forest cs next v) top g never)
    ptr_stored v g (Goes R) (fits, p) =
        store_ptr F.face T F.forest R.forest b f v x r (p T).0 at (p T).1
        (λ d cs next o h n e. leaf_stands T F.forest d o F.face.shapes.structs cs next h r f top n e
        (target_at F.forest v) fits)

    pub null_stored : (made : Edited) → IsLeafStored F r f Null made
        → Becomes F.face T F.forest (StoreConst b f ConstNull) x made
    null_stored (Fault k) h = absurd h
    null_stored Stays (inl l) =
        inl (ptr_stays F.face T F.forest r f (StoreConst b f ConstNull) x b at (λ s. NullValue) (λ s. refl) top l)
    null_stored Stays (inr never) = absurd (never tt)
    null_stored (Goes R) (fits, p) = store_null F.face T F.forest R.forest b f x r (p T).0 at (p T).1

  pub datum_stored : (v : ℕ) (made : Edited) → IsDatumStored F r f (datum_at F.forest v) made
      → Becomes F.face T F.forest (StoreData b f v) x made
  datum_stored v (Fault k) h = absurd h
  datum_stored v Stays l = inl (store_data_stays F.face T F.forest b f v x r at (l T))
  datum_stored v (Goes R) p = store_data F.face T F.forest R.forest b f v x r (p T).0 at (p T).1

  pub known_stored : (k : ℕ) (made : Edited) → IsDatumStored F r f (Known k) made
      → Becomes F.face T F.forest (StoreConst b f (ConstKnown k)) x made
  known_stored k (Fault j) h = absurd h
  known_stored k Stays l = inl (store_known_stays F.face T F.forest b f k x r at (l T))
  known_stored k (Goes R) p = store_known F.face T F.forest R.forest b f k x r (p T).0 at (p T).1
