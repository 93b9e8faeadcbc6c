-- Components that gain slots keep their ranges.
use Rattle.std.specs.Prelude.{◌≡◌, ◌<◌, ℕ, List, length}
use Rattle.fore_base.specs.Lists.{Every}
use Rattle.ta_core.specs.Auto.{Automaton, IsRanked}
use Rattle.ta_core.specs.Single.{HasOneTop}
use Rattle.ta_core.specs.declared.auto.Rule.{Rule}
use Rattle.fa_core.specs.declared.faces.BoxFace.{BoxFace}
use Rattle.fa_core.specs.declared.forest.Forest.{Forest}
use Rattle.fa_core.specs.declared.forest.Target.{Target}
use Rattle.fa_core.specs.declared.forest.Target.TheVariants.{At}
use Rattle.fa_sound.specs.Components.{component_at}
use Rattle.fa_split.specs.Split.{top_rule}
use Rattle.fa_unfold.specs.Slots.{rule_places, without}
use Rattle.fa_unfold.specs.Unfolding.{end_rules, grown, open_root}

-- root i, of one rule, may lose the slot at place p and gain the slots of rule z of b
abbrev pub CanOpen : List BoxFace → Forest → ℕ → ℕ → Automaton → Rule → Type 0
CanOpen bs F i p b z = IsRanked (grown bs (component_at F.autos i) (top_rule (component_at F.autos i))
    (without p (rule_places (top_rule (component_at F.autos i)))) b z)

-- the root that leaf y names, if it names one, may gain the slots of the rules outs of b
pub record CanGrow (bs : List BoxFace) (F : Forest) (i : ℕ) (y : Target) (ends : List Rule) (b : Automaton)
    (outs : List Rule) : Type 0 where
  pub root : i < length F.autos
  pub top : HasOneTop (component_at F.autos i)
  pub end : (j : ℕ) → y ≡ At j → j < length F.autos
  pub ranked : (j : ℕ) → y ≡ At j
      → Every (λ w. Every (λ z. IsRanked (grown bs (component_at F.autos j) w (rule_places w) b z)) outs)
      (end_rules F i j ends)

-- root i, with the slots of rule z of the input b, is there with the end that may grow
abbrev pub CanUnfoldBy : List BoxFace → Forest → ℕ → ℕ → Target → List Rule → Automaton → Automaton → List Rule → Rule
    → Type 0
CanUnfoldBy bs F i p y ends b out outs z = CanOpen bs F i p b z × CanGrow bs (open_root bs F i p b z) i y ends out outs
