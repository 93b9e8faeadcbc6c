-- A sound forest has a member, so its members do not all leak where none does.
use Rattle.std.proofs.Common.{ℕ, List, refl, Option, Some, None, MatchOption, IsSome, IsNone}
use Rattle.fore_base.specs.Lists.{Every}
use Rattle.ta_core.specs.Auto.{IsRanked}
use Rattle.fa_core.specs.Boxes.{IsTableOf}
use Rattle.fa_core.specs.Filled.{IsSound}
use Rattle.fa_core.specs.declared.boxes.BoxDef.{BoxDef}
use Rattle.fa_core.specs.declared.faces.Face.{Face}
use Rattle.fa_core.specs.declared.forest.Forest.{Forest}
use Rattle.fa_back.specs.Insides.{AreRankedInsides}
use Rattle.fa_sample.proofs.Sampled.{has_member}
use Rattle.fa_merge.specs.Reached.{AlwaysLeaks, DoAllLeak, DoesNoneLeak, NeverLeaks}

module _ (face : Face) (F : Forest) (sound : IsSound face F) (ranked : Every IsRanked F.autos) where
  pub not_both : (T : List BoxDef) → IsTableOf face T → AreRankedInsides T → DoAllLeak face T F → DoesNoneLeak face T F
      → ⊥
  not_both T t insides all none = let m = has_member face T F t insides sound ranked in none m.0 m.1 (all m.0 m.1)

  -- what is said of the roots is exact
  pub exact_of : (found : Option ℕ) → MatchOption found (NeverLeaks face F) (λ r. AlwaysLeaks face F)
      → (T : List BoxDef) → IsTableOf face T → AreRankedInsides T
      → (DoAllLeak face T F → IsSome found) × (DoesNoneLeak face T F → IsNone found)
  exact_of None h T t insides = ((λ all. absurd (not_both T t insides all (h T t))), (λ none. refl))
  exact_of (Some r) h T t insides = ((λ all. refl), (λ none. absurd (not_both T t insides (h T t) none)))
