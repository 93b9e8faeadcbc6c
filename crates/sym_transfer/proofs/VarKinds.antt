-- Edges that change variables alone: copies, choices, and variables that die.
use Rattle.std.proofs.Common.{◌≡◌, ◌∙◌, ℕ, List, [], ◌∷◌, map, slice_set, Some, None, refl, ap}
use Rattle.fore_base.specs.Stores.{set_datum, set_each}
use Rattle.fore_base.specs.declared.store.Datum.{Datum}
use Rattle.fore_base.specs.declared.store.Datum.TheVariants.{Undefined, Known}
use Rattle.fore_base.specs.declared.store.Value.{Value}
use Rattle.fa_core.specs.declared.boxes.BoxDef.{BoxDef}
use Rattle.fa_core.specs.declared.faces.Face.{Face}
use Rattle.fa_core.specs.declared.forest.Forest.{Forest}
use Rattle.fa_core.specs.declared.forest.Target.TheVariants.{Uninit}
use Rattle.fa_core.specs.Dressed.{roots_of, value_in}
use Rattle.c_cfg.specs.declared.graph.DataArg.{DataArg}
use Rattle.c_cfg.specs.declared.graph.Instr.TheVariants.{CopyPtr, Kill, CopyData, Choose}
use Rattle.c_cfg.specs.declared.graph.PtrArg.{PtrArg}
use Rattle.c_cfg.specs.Edges.{Passed, arg_of}
use Rattle.sym_core.specs.Carried.{Carries}
use Rattle.sym_transfer.specs.inner.Targets.{target_of_arg, datum_of_arg, with_vars}
use Rattle.sym_transfer.proofs.Carrying.{arg_is, data_arg_is, set_is, carries_vars}
use Rattle.sym_transfer.proofs.Places.{set_mapped}
use Rattle.sym_transfer.proofs.Standing.{store_by}

each_mapped : {A B : Type 0} (g : A → B) (xs : List A) (ns : List ℕ) (x : A) → set_each (map g xs) ns (g x)
    ≡ map g (set_each xs ns x)
each_mapped g xs [] x = refl
each_mapped {B = B} g xs (n ∷ ns) x = ap (λ (ys : List B). set_each ys ns (g x)) (set_mapped g xs n x)
    ∙ each_mapped g (slice_set xs n x) ns x

module _ (face : Face) (T : List BoxDef) (H : Forest) where
  pub copy_ptr : (to : ℕ) (a : PtrArg) (x : ℕ)
      → Carries face T H (with_vars H (slice_set H.vars to (target_of_arg H a)) H.data_vars) (CopyPtr to a) x
  copy_ptr to a x = carries_vars face T H (CopyPtr to a) x (slice_set H.vars to (target_of_arg H a)) H.data_vars
      (λ d cs next o h. ap Passed
      (set_is d H cs next to (target_of_arg H a) (arg_of (store_by d H cs next) a) (arg_is d H cs next a)))

  pub copy_data : (to : ℕ) (a : DataArg) (x : ℕ)
      → Carries face T H (with_vars H H.vars (slice_set H.data_vars to (datum_of_arg H a))) (CopyData to a) x
  copy_data to a x = carries_vars face T H (CopyData to a) x H.vars (slice_set H.data_vars to (datum_of_arg H a))
      (λ d cs next o h. ap (λ (v : Datum). Passed (set_datum (store_by d H cs next) to v)) (data_arg_is d H cs next a))

  pub kill_vars : (ps ds : List ℕ) (x : ℕ)
      → Carries face T H (with_vars H (set_each H.vars ps Uninit) (set_each H.data_vars ds Undefined)) (Kill ps ds) x
  kill_vars ps ds x = carries_vars face T H (Kill ps ds) x (set_each H.vars ps Uninit)
      (set_each H.data_vars ds Undefined)
      (λ d cs next o h.
      ap
      (λ (w : List Value). Passed
      (record { vars = w; data_vars = set_each H.data_vars ds Undefined; cells = cs; next = next }))
      (each_mapped (value_in (roots_of d)) H.vars ps Uninit))

  pub choose_none : (x : ℕ) → Carries face T H H (Choose None) x
  choose_none x = carries_vars face T H (Choose None) x H.vars H.data_vars (λ d cs next o h. refl)

  pub choose_some : (to x : ℕ)
      → Carries face T H (with_vars H H.vars (slice_set H.data_vars to (Known x))) (Choose (Some to)) x
  choose_some to x = carries_vars face T H (Choose (Some to)) x H.vars (slice_set H.data_vars to (Known x))
      (λ d cs next o h. refl)
