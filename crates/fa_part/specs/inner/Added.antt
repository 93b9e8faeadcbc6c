-- Numbers added to a list that has each of them once, and the fields that rules cover.
use Rattle.std.specs.Prelude.{◌↔◌, ◌⊎◌, ℕ, List, flat_map}
use Rattle.fore_base.specs.Lists.{IsIn, IsDistinct}
use Rattle.ta_core.specs.Auto.{Automaton}
use Rattle.ta_core.specs.declared.auto.Rule.{Rule}
use Rattle.fa_core.specs.Filled.{covers}
use Rattle.fa_core.specs.Folding.{symbol_slots}
use Rattle.fa_core.specs.declared.faces.BoxFace.{BoxFace}
use Rattle.fa_split.specs.Chosen.{StandsAtTop}

-- the list `new` is `old` with these numbers added where they were not there; if none stood twice, none does
pub record Adds (old xs new : List ℕ) : Type 0 where
  pub once : IsDistinct old → IsDistinct new
  pub are : (f : ℕ) → IsIn f new ↔ (IsIn f old ⊎ IsIn f xs)

-- one of the rules, which stands at the top of some tree of a, has a slot that covers field f
abbrev pub CoveredBy : List BoxFace → Automaton → List Rule → ℕ → Type 0
CoveredBy bs a rs f = (r : Rule) × IsIn r rs × StandsAtTop a r × IsIn f (flat_map (covers bs) (symbol_slots r.symbol))
