use Rattle.std.proofs.Common.{◌≡◌, List, map, take}
use Rattle.fore_base.specs.Lists.{Every}
use Rattle.ta_core.specs.declared.auto.Rule.{Rule}
use Rattle.fa_sound.specs.Components.{component_at}
use Rattle.fa_split.specs.Chosen.{Picked, StandsAtTop, chosen_at}
use Rattle.fa_sound.specs.Unions.{forests}
use Rattle.fa_split.proofs.choosing.forests_by_rule.Given as goal

abbrev pub invariant-loop-rule : goal.invariant-loop-rule
invariant-loop-rule l =
    ((xs : List Rule) × Picked (StandsAtTop (component_at l.forest.forest.autos l.root)) (take l.rule-index l.rules) xs
    × (forests l.made ≡ map (chosen_at l.forest.forest l.root) xs)) × Every (λ s. s.face ≡ l.forest.face) l.made
