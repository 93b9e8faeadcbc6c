-- Components of forests by their roots.
use Rattle.std.specs.Prelude.{ℕ, zero, suc, List, [], ◌∷◌, slice_set}
use Rattle.ta_core.specs.Auto.{Automaton, automaton}
use Rattle.fa_core.specs.declared.forest.Forest.{Forest}

-- the k-th component; where there is none, an automaton without trees
abbrev pub component_at : List Automaton → ℕ → Automaton
component_at [] k = automaton 0 [] []
component_at (a ∷ autos) zero = a
component_at (a ∷ autos) (suc k) = component_at autos k

-- the forest with this component at root r
abbrev pub with_component : Forest → ℕ → Automaton → Forest
with_component F r a = record F { autos = slice_set F.autos r a }
