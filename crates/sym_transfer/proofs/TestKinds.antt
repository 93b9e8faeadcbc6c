-- Tests, stops, and frees of what is no cell.
use Rattle.std.proofs.Common.{◌≡◌, ◌∙◌, ℕ, Bool, true, false, true≢false, if◌then◌else◌, List, length, Option, Some}
use Rattle.std.proofs.Common.{None, Result, Ok, Err, refl, sym, ap, ap₂}
use Rattle.fore_base.specs.Stores.{freed}
use Rattle.fore_base.specs.declared.fault.Fault.{Fault}
use Rattle.fore_base.specs.declared.store.CellRec.{CellRec}
use Rattle.fore_base.specs.declared.store.Datum.{Datum}
use Rattle.fore_base.specs.declared.store.Store.{Store}
use Rattle.fore_base.specs.declared.store.Value.{Value}
use Rattle.fa_core.specs.declared.boxes.BoxDef.{BoxDef}
use Rattle.fa_core.specs.declared.faces.Face.{Face}
use Rattle.fa_core.specs.declared.forest.Forest.{Forest}
use Rattle.fa_core.specs.declared.forest.Target.{Target}
use Rattle.fa_core.specs.declared.forest.Target.TheVariants.{Null, Uninit, Dangling, At}
use Rattle.fa_core.specs.Dressed.{Nodes, roots_of, value_in}
use Rattle.fa_core.specs.Filled.{IsRoot}
use Rattle.fa_core.specs.Member.{OfForest}
use Rattle.c_types.specs.Steps.{same_values, same_datums, agrees}
use Rattle.c_cfg.specs.declared.graph.DataArg.{DataArg}
use Rattle.c_cfg.specs.declared.graph.Instr.TheVariants.{Free, TestPtr, TestData}
use Rattle.c_cfg.specs.declared.graph.PtrArg.{PtrArg}
use Rattle.c_cfg.specs.Edges.{Pass, Passed, Faulted, NotPassed, raw_step, onto, if_agreed}
use Rattle.sym_core.specs.Carried.{Carries, AllGo}
use Rattle.sym_core.specs.Explicit.{target_at}
use Rattle.sym_transfer.specs.inner.Targets.{target_of_arg, datum_of_arg, freed_root, same_targets}
use Rattle.sym_transfer.proofs.Apart.{targets_same}
use Rattle.sym_transfer.proofs.Carrying.{all_go, carries_vars, var_is, arg_is, data_arg_is}
use Rattle.sym_transfer.proofs.Standing.{IsHeap, store_by}

abbrev is_right : {A : Type 0} → Result A Fault → Bool
is_right (Ok r) = true
is_right (Err k) = false

abbrev ok_root : Result (Option ℕ) Fault → Option ℕ
ok_root (Ok r) = r
ok_root (Err k) = None

abbrev is_there : Option ℕ → Bool
is_there None = false
is_there (Some r) = true

-- what the test of two operands gives
abbrev tested : Bool → Result Bool Fault → Store → Pass
tested equal q s = onto q (λ same. if_agreed equal same s)

module _ (face : Face) (T : List BoxDef) (H : Forest) where
  -- Tests of pointers: the targets decide, for all members alike.

  module _ (l r : PtrArg) (equal : Bool) (x : ℕ) (left : IsRoot (length H.autos) (target_of_arg H l))
      (right : IsRoot (length H.autos) (target_of_arg H r)) where
    found : (d : Nodes) (cs : List CellRec) (next : ℕ) → OfForest T H d → IsHeap face.shapes.structs d cs next
        → raw_step face.shapes.structs (TestPtr l r equal) x (store_by d H cs next)
        ≡ tested equal (same_targets (target_of_arg H l) (target_of_arg H r)) (store_by d H cs next)
    found d cs next o h =
        let s = store_by d H cs next in
        ap₂ (λ (v w : Value). tested equal (same_values v w) s) (arg_is d H cs next l) (arg_is d H cs next r)
        ∙ ap (λ (q : Result Bool Fault). tested equal q s)
        (targets_same face.shapes.structs T H d o cs next h (target_of_arg H l) (target_of_arg H r) left right)

    pub test_ptr_fails : (k : Fault) → same_targets (target_of_arg H l) (target_of_arg H r) ≡ Err k
        → AllGo face T H (TestPtr l r equal) x (Faulted k)
    test_ptr_fails k e = all_go face T H (TestPtr l r equal) x (Faulted k)
        (λ d cs next o h. found d cs next o h ∙ ap (λ (q : Result Bool Fault). tested equal q (store_by d H cs next)) e)

    pub test_ptr_stays : (b : Bool) → same_targets (target_of_arg H l) (target_of_arg H r) ≡ Ok b
        → agrees equal b ≡ false → AllGo face T H (TestPtr l r equal) x NotPassed
    test_ptr_stays b e a = all_go face T H (TestPtr l r equal) x NotPassed
        (λ d cs next o h. found d cs next o h
        ∙ (ap (λ (q : Result Bool Fault). tested equal q (store_by d H cs next)) e
        ∙ ap (λ (y : Bool). if y then Passed (store_by d H cs next) else NotPassed) a))

    pub test_ptr_goes : (b : Bool) → same_targets (target_of_arg H l) (target_of_arg H r) ≡ Ok b → agrees equal b ≡ true
        → Carries face T H H (TestPtr l r equal) x
    test_ptr_goes b e a = carries_vars face T H (TestPtr l r equal) x H.vars H.data_vars
        (λ d cs next o h. found d cs next o h
        ∙ (ap (λ (q : Result Bool Fault). tested equal q (store_by d H cs next)) e
        ∙ ap (λ (y : Bool). if y then Passed (store_by d H cs next) else NotPassed) a))

  -- Tests of data.

  module _ (l r : DataArg) (equal : Bool) (x : ℕ) where
    found_data : (d : Nodes) (cs : List CellRec) (next : ℕ)
        → raw_step face.shapes.structs (TestData l r equal) x (store_by d H cs next)
        ≡ tested equal (same_datums (datum_of_arg H l) (datum_of_arg H r)) (store_by d H cs next)
    found_data d cs next = ap₂ (λ (v w : Datum). tested equal (same_datums v w) (store_by d H cs next))
        (data_arg_is d H cs next l) (data_arg_is d H cs next r)

    pub test_data_fails : (k : Fault) → same_datums (datum_of_arg H l) (datum_of_arg H r) ≡ Err k
        → AllGo face T H (TestData l r equal) x (Faulted k)
    test_data_fails k e = all_go face T H (TestData l r equal) x (Faulted k)
        (λ d cs next o h. found_data d cs next
        ∙ ap (λ (q : Result Bool Fault). tested equal q (store_by d H cs next)) e)

    pub test_data_stays : (b : Bool) → same_datums (datum_of_arg H l) (datum_of_arg H r) ≡ Ok b → agrees equal b ≡ false
        → AllGo face T H (TestData l r equal) x NotPassed
    test_data_stays b e a = all_go face T H (TestData l r equal) x NotPassed
        (λ d cs next o h. found_data d cs next
        ∙ (ap (λ (q : Result Bool Fault). tested equal q (store_by d H cs next)) e
        ∙ ap (λ (y : Bool). if y then Passed (store_by d H cs next) else NotPassed) a))

    pub test_data_goes : (b : Bool) → same_datums (datum_of_arg H l) (datum_of_arg H r) ≡ Ok b → agrees equal b ≡ true
        → Carries face T H H (TestData l r equal) x
    test_data_goes b e a = carries_vars face T H (TestData l r equal) x H.vars H.data_vars
        (λ d cs next o h. found_data d cs next
        ∙ (ap (λ (q : Result Bool Fault). tested equal q (store_by d H cs next)) e
        ∙ ap (λ (y : Bool). if y then Passed (store_by d H cs next) else NotPassed) a))

  -- Frees of what is no cell.

  -- a null pointer may be freed, and nothing happens
  pub free_null : (b x : ℕ) → target_at H b ≡ Null → Carries face T H H (Free b) x
  free_null b x e = carries_vars face T H (Free b) x H.vars H.data_vars (λ d cs next o h.
      let s = store_by d H cs next in
      ap (λ (v : Value). onto (freed s v) Passed) (var_is d H cs next b ∙ ap (value_in (roots_of d)) e))

-- what is freed where there is no fault
pub frees_nothing : (t : Target) → freed_root t ≡ Ok None → t ≡ Null
frees_nothing Null e = refl
frees_nothing Uninit e = absurd (true≢false (sym (ap is_right e)))
frees_nothing Dangling e = absurd (true≢false (sym (ap is_right e)))
frees_nothing (At r) e = absurd (true≢false (ap is_there (ap ok_root e)))
