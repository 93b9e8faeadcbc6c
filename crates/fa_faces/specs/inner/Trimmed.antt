-- Automata in the place of others: without the states that take no part.
use Rattle.std.specs.Prelude.{List}
use Rattle.fore_base.specs.Lists.{Paired}
use Rattle.ta_core.specs.Auto.{Automaton, IsRanked}
use Rattle.ta_core.specs.Language.{HasSameLanguage, IsTrim}
use Rattle.ta_core.specs.Renumbered.{StandsFor}

-- b is a without the states that take no part
pub record IsTrimOf (a b : Automaton) : Type 0 where
  pub language : HasSameLanguage a b
  pub stands : StandsFor a b
  pub trim : IsTrim b
  pub ranked : IsRanked b

-- so for each of them
abbrev pub AreTrimOf : List Automaton → List Automaton → Type 0
AreTrimOf autos mades = Paired IsTrimOf autos mades
