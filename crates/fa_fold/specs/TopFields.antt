-- The Field slots at the tops of a forest, of which each fold takes some.
use Rattle.std.specs.Prelude.{ℕ, suc, ◌+◌, List, [], ◌∷◌}
use Rattle.ta_core.specs.Auto.{Automaton}
use Rattle.ta_core.specs.declared.symbol.Slot.{Slot}
use Rattle.ta_core.specs.declared.symbol.Slot.TheVariants.{Field, Link, Hook}
use Rattle.fa_core.specs.Folding.{symbol_slots}
use Rattle.fa_split.specs.Split.{top_rule}

-- how many of the slots are Field slots
abbrev pub field_slots : List Slot → ℕ
field_slots [] = 0
field_slots (Field f ∷ ss) = suc (field_slots ss)
field_slots (Link b ∷ ss) = field_slots ss
field_slots (Hook b ∷ ss) = field_slots ss

-- how many stand at the top of the automaton, where it has one rule there
abbrev pub top_fields : Automaton → ℕ
top_fields a = field_slots (symbol_slots (top_rule a).symbol)

-- how many stand at the tops of all
abbrev pub all_top_fields : List Automaton → ℕ
all_top_fields [] = 0
all_top_fields (a ∷ autos) = top_fields a + all_top_fields autos
