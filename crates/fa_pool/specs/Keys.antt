-- The keys by which automata are found: a number of 64 bits into which each part of the automaton goes in its turn.
use Rattle.std.specs.Prelude.{ℕ, ◌+◌, ◌*◌, ◌%◌, ◌^◌, List, [], ◌∷◌}
use Rattle.fore_base.specs.declared.store.Datum.{Datum}
use Rattle.fore_base.specs.declared.store.Datum.TheVariants.{Undefined, Known}
use Rattle.ta_core.specs.Auto.{Automaton}
use Rattle.ta_core.specs.declared.auto.Rule.{Rule}
use Rattle.ta_core.specs.declared.symbol.Slot.{Slot}
use Rattle.ta_core.specs.declared.symbol.Slot.TheVariants.{Field, Link, Hook}
use Rattle.ta_core.specs.declared.symbol.Symbol.{Symbol}
use Rattle.ta_core.specs.declared.symbol.Symbol.TheVariants.{Null, Uninit, Dangling, Ref, Cell}

-- the key with a number more, in 64 bits
abbrev pub mixed : ℕ → ℕ → ℕ
mixed key n = (key * 1000003 % 2 ^ 64 + n) % 2 ^ 64

-- with each of the numbers
abbrev pub with_numbers : ℕ → List ℕ → ℕ
with_numbers key [] = key
with_numbers key (n ∷ ns) = with_numbers (mixed key n) ns

-- with a datum: which kind, and its number
abbrev pub with_datum : ℕ → Datum → ℕ
with_datum key Undefined = mixed key 0
with_datum key (Known d) = mixed (mixed key 1) d

abbrev pub with_datums : ℕ → List Datum → ℕ
with_datums key [] = key
with_datums key (d ∷ ds) = with_datums (with_datum key d) ds

-- with a slot: which kind, and the number of its field or box
abbrev pub with_slot : ℕ → Slot → ℕ
with_slot key (Field f) = mixed (mixed key 0) f
with_slot key (Link b) = mixed (mixed key 1) b
with_slot key (Hook b) = mixed (mixed key 2) b

abbrev pub with_slots : ℕ → List Slot → ℕ
with_slots key [] = key
with_slots key (s ∷ ss) = with_slots (with_slot key s) ss

-- with a symbol: which kind, and what it has
abbrev pub with_symbol : ℕ → Symbol → ℕ
with_symbol key Null = mixed key 0
with_symbol key Uninit = mixed key 1
with_symbol key Dangling = mixed key 2
with_symbol key (Ref r) = mixed (mixed key 3) r
with_symbol key (Cell shape datums slots) = with_slots (with_datums (mixed (mixed key 4) shape) datums) slots

-- with a rule
abbrev pub with_rule : ℕ → Rule → ℕ
with_rule key r = with_numbers (with_symbol (mixed key r.state) r.symbol) r.children

abbrev pub with_rules : ℕ → List Rule → ℕ
with_rules key [] = key
with_rules key (r ∷ rs) = with_rules (with_rule key r) rs

-- the key of the automaton
abbrev pub key_of : Automaton → ℕ
key_of a = with_rules (with_numbers (mixed 0 a.states) a.roots) a.rules
