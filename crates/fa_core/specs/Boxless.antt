-- Automata without box edges.
use Rattle.fore_base.specs.Lists.{Every}
use Rattle.ta_core.specs.Auto.{Automaton}
use Rattle.ta_core.specs.declared.symbol.Slot.{Slot}
use Rattle.ta_core.specs.declared.symbol.Slot.TheVariants.{Field, Link, Hook}
use Rattle.ta_core.specs.declared.symbol.Symbol.{Symbol}
use Rattle.ta_core.specs.declared.symbol.Symbol.TheVariants.{Null, Uninit, Dangling, Ref, Cell}

-- the slot is no box edge
abbrev pub IsField : Slot → Type 0
IsField (Field f) = Unit {0}
IsField (Link b) = ⊥
IsField (Hook b) = ⊥

-- no slot of the symbol is a box edge
abbrev pub IsPlain : Symbol → Type 0
IsPlain Null = Unit {0}
IsPlain Uninit = Unit {0}
IsPlain Dangling = Unit {0}
IsPlain (Ref r) = Unit {0}
IsPlain (Cell s ds ss) = Every IsField ss

-- no rule has a box edge
abbrev pub HasNoBoxes : Automaton → Type 0
HasNoBoxes a = Every (λ r. IsPlain r.symbol) a.rules
