-- The first rule that a box breaks, by the step of the decision at which it is met.
use Rattle.std.proofs.Common.{ℕ, ◌<◌, ◌^◌, List, length, Option}
use Rattle.fore_base.specs.Lists.{Every}
use Rattle.ta_core.specs.Auto.{Automaton}
use Rattle.fa_core.specs.declared.boxes.BoxDef.{BoxDef}
use Rattle.fa_core.specs.declared.faces.BoxFace.{BoxFace}
use Rattle.fa_core.specs.declared.faces.Face.{Face}
use Rattle.fa_core.specs.Filled.{HasSome}
use Rattle.fa_boxes.specs.Signatures.{SomeSignsApart}
use Rattle.fa_box_rules.specs.Rules.{Inside, IsWellNamed, Breaks4, Breaks5, signs_apart, Breaks6, BreaksFirst}
use Rattle.fa_box_rules.specs.declared.rule.BoxRule.TheVariants.{B4, B5, B6}
use Rattle.fa_faces.specs.Faults.{box_inside}
use Rattle.fa_faces.specs.inner.Parts.{IsReady, AllRight, IsShown}
use Rattle.fa_faces.specs.inner.Trimmed.{AreTrimOf}
use Rattle.fa_faces.proofs.Carried.{named_trimmed}
use Rattle.fa_faces.proofs.Faced.{full_no_seven, right_no_four, shown_no_five}
use Rattle.fa_faces.proofs.Trimmed.{all_trim, full_trimmed, long_trimmed}

module _ (face : Face) (T : List BoxDef) (b : Inside) where
  pub first_four : IsReady face b → Breaks4 face b → BreaksFirst face T b B4
  first_four ready f = (full_no_seven b ready.full, f)

  pub first_five : IsReady face b → AllRight face b → Breaks5 face T b → BreaksFirst face T b B5
  first_five ready right f = (full_no_seven b ready.full, right_no_four face b right, f)

  pub first_signs : IsReady face b → AllRight face b → SomeSignsApart face.boxes b.autos → BreaksFirst face T b B5
  first_signs ready right g =
      let s = g.2 in first_five ready right (signs_apart g.0 s.0 s.1 s.2 g.1 s.3 s.4 s.5 s.6)

  pub first_six : (x : BoxFace) → IsShown face T b x → Breaks6 face T b → BreaksFirst face T b B6
  first_six x shown f =
      (full_no_seven b shown.full, right_no_four face b shown.right, shown_no_five face T b x shown, f)

-- what is known of the trimmed components
pub trimmed_ready : (face : Face) (T : List BoxDef) (input : ℕ) (output : Option ℕ) (autos mades : List Automaton)
    → AreTrimOf autos mades → IsWellNamed face (box_inside input output autos) → Every HasSome autos
    → length autos < 2 ^ 32 → IsReady face (box_inside input output mades)
trimmed_ready face T input output autos mades h named full count = record {
  named = named_trimmed face T input output autos mades h named;
  full = full_trimmed autos mades h full;
  trim = all_trim autos mades h;
  count = long_trimmed autos mades h (λ (n : ℕ). n < 2 ^ 32) count;
}
