-- How many children stand below a symbol.
use Rattle.std.specs.Prelude.{ℕ, ◌+◌, List, [], ◌∷◌}
use Rattle.ta_core.specs.declared.symbol.Slot.{Slot}
use Rattle.ta_core.specs.declared.symbol.Slot.TheVariants.{Field, Link, Hook}
use Rattle.ta_core.specs.declared.symbol.Symbol.{Symbol}
use Rattle.ta_core.specs.declared.symbol.Symbol.TheVariants.{Null, Uninit, Dangling, Ref, Cell}

-- one child for each Field and each Link; a Hook has none
abbrev pub child_slots : List Slot → ℕ
child_slots [] = 0
child_slots (Field f ∷ slots) = child_slots slots + 1
child_slots (Link b ∷ slots) = child_slots slots + 1
child_slots (Hook b ∷ slots) = child_slots slots

-- a leaf has no children
abbrev pub arity : Symbol → ℕ
arity Null = 0
arity Uninit = 0
arity Dangling = 0
arity (Ref r) = 0
arity (Cell shape datums slots) = child_slots slots
