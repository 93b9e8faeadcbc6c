-- Products of lists: one item of each.
use Rattle.std.specs.Prelude.{List, [], ◌∷◌, ◌++◌, map, flat_map}
use Rattle.ta_core.specs.Auto.{Automaton}
use Rattle.fa_core.specs.declared.forest.Forest.{Forest}

-- each of the lists with each of the items behind it
abbrev pub longer : {X : Type 0} → List (List X) → List X → List (List X)
longer lists xs = flat_map (λ l. map (λ x. l ++ x ∷ []) xs) lists

-- each of the lists with one item of each of the options behind it
abbrev pub product_on : {X : Type 0} → List (List X) → List (List X) → List (List X)
product_on lists [] = lists
product_on lists (xs ∷ options) = product_on (longer lists xs) options

-- the lists with one item of each of the options
abbrev pub product : {X : Type 0} → List (List X) → List (List X)
product options = product_on ([] ∷ []) options

-- the forest with these components
abbrev pub with_autos : Forest → List Automaton → Forest
with_autos F autos = record { autos = autos; vars = F.vars; data_vars = F.data_vars }
