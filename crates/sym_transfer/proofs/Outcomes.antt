-- What the calls make is what the members become.
use Rattle.std.proofs.Common.{◌≡◌, ◌∙◌, inl, ℕ, Bool, List, Result, sym, ap, subst}
use Rattle.fore_base.specs.declared.fault.Fault.{Fault as FaultKind}
use Rattle.fa_core.specs.Filled.{IsSound}
use Rattle.fa_core.specs.declared.boxes.BoxDef.{BoxDef}
use Rattle.fa_core.specs.declared.faces.Face.{Face}
use Rattle.fa_core.specs.declared.forest.Forest.{Forest}
use Rattle.fa_sound.specs.Soundness.{SoundForest}
use Rattle.c_types.specs.Steps.{same_datums}
use Rattle.c_cfg.specs.declared.graph.DataArg.{DataArg}
use Rattle.c_cfg.specs.declared.graph.Instr.{Instr}
use Rattle.c_cfg.specs.declared.graph.Instr.TheVariants.{TestPtr, TestData}
use Rattle.c_cfg.specs.declared.graph.PtrArg.{PtrArg}
use Rattle.sym_core.specs.Carried.{Carries}
use Rattle.sym_transfer.specs.Edited.{Becomes}
use Rattle.sym_transfer.specs.inner.Targets.{target_of_arg, datum_of_arg, same_targets}
use Rattle.sym_transfer.specs.declared.outcome.Edited.{Edited}
use Rattle.sym_transfer.specs.declared.outcome.Edited.TheVariants.{Fault, Stays, Goes}
use Rattle.sym_transfer.specs.inner.Parts.{IsTested}
use Rattle.sym_transfer.proofs.Below.{arg_below}
use Rattle.sym_transfer.proofs.TestKinds.{test_ptr_fails, test_ptr_stays, test_ptr_goes, test_data_fails}
use Rattle.sym_transfer.proofs.TestKinds.{test_data_stays, test_data_goes}

-- a forest that is the edited one
pub carried : (face : Face) (T : List BoxDef) (F G R : Forest) (i : Instr) (x : ℕ) → R ≡ G → Carries face T F G i x
    → Carries face T F R i x
carried face T F G R i x e h = subst (λ (M : Forest). Carries face T F M i x) (sym e) h

module _ (F : SoundForest) (T : List BoxDef) (equal : Bool) (x : ℕ) where
  pub ptrs_tested : (l r : PtrArg) → IsSound F.face F.forest → (same : Result Bool FaultKind)
      → same ≡ same_targets (target_of_arg F.forest l) (target_of_arg F.forest r)
      → (made : Edited) → IsTested F same equal made → Becomes F.face T F.forest (TestPtr l r equal) x made
  ptrs_tested l r sound same e (Fault k) h =
      test_ptr_fails F.face T F.forest l r equal x (arg_below F.face F.forest sound l)
      (arg_below F.face F.forest sound r) k (sym e ∙ h)
  ptrs_tested l r sound same e Stays (b, h, a) =
      inl
      (test_ptr_stays F.face T F.forest l r equal x (arg_below F.face F.forest sound l)
      (arg_below F.face F.forest sound r) b (sym e ∙ h) a)
  ptrs_tested l r sound same e (Goes R) (b, h, a, i) =
      carried F.face T F.forest F.forest R.forest (TestPtr l r equal) x (ap (λ (G : SoundForest). G.forest) i)
      (test_ptr_goes F.face T F.forest l r equal x (arg_below F.face F.forest sound l)
      (arg_below F.face F.forest sound r) b (sym e ∙ h) a)

  pub data_tested : (l r : DataArg) (same : Result Bool FaultKind)
      → same ≡ same_datums (datum_of_arg F.forest l) (datum_of_arg F.forest r) → (made : Edited)
      → IsTested F same equal made → Becomes F.face T F.forest (TestData l r equal) x made
  data_tested l r same e (Fault k) h = test_data_fails F.face T F.forest l r equal x k (sym e ∙ h)
  data_tested l r same e Stays (b, h, a) = inl (test_data_stays F.face T F.forest l r equal x b (sym e ∙ h) a)
  data_tested l r same e (Goes R) (b, h, a, i) =
      carried F.face T F.forest F.forest R.forest (TestData l r equal) x (ap (λ (G : SoundForest). G.forest) i)
      (test_data_goes F.face T F.forest l r equal x b (sym e ∙ h) a)
