-- How many rules automata have.
use Rattle.std.specs.Prelude.{ℕ, ◌+◌, List, [], ◌∷◌, length}
use Rattle.ta_core.specs.Auto.{Automaton}

-- how many rules they have in all
abbrev pub rules_in : List Automaton → ℕ
rules_in [] = 0
rules_in (a ∷ autos) = length a.rules + rules_in autos
