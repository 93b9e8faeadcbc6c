-- What choices of trees give to a port.
use Rattle.std.specs.Prelude.{ℕ, List}
use Rattle.ta_core.specs.Auto.{Automaton}
use Rattle.ta_core.specs.declared.tree.Tree.{Tree}
use Rattle.fa_core.specs.declared.faces.BoxFace.{BoxFace}
use Rattle.fa_core.specs.Filled.{Choice}
use Rattle.fa_core.specs.Rearranged.{Rearranged}
use Rattle.fa_box_rules.specs.Rules.{root_fields}

-- two choices of trees give root r different fields
abbrev pub GivesApart : List BoxFace → List Automaton → ℕ → Type 0
GivesApart bs autos r = (ts : List Tree) × (us : List Tree) × Choice autos ts × Choice autos us
    × (Rearranged (root_fields bs ts r) (root_fields bs us r) → ⊥)
