-- The component with another datum at its root.
use Rattle.std.specs.Prelude.{ℕ, slice_set}
use Rattle.fore_base.specs.declared.store.Datum.{Datum}
use Rattle.ta_core.specs.Auto.{Automaton}
use Rattle.ta_core.specs.declared.auto.Rule.{Rule}
use Rattle.ta_core.specs.declared.symbol.Symbol.{Symbol}
use Rattle.ta_core.specs.declared.symbol.Symbol.TheVariants.{Null, Uninit, Dangling, Ref, Cell}
use Rattle.fa_core.specs.declared.forest.Forest.{Forest}
use Rattle.fa_sound.specs.Components.{component_at, with_component}
use Rattle.fa_split.specs.Chosen.{chosen}
use Rattle.fa_split.specs.Split.{top_rule}

-- the symbol with the datum x in data field f
abbrev pub symbol_with : ℕ → Datum → Symbol → Symbol
symbol_with f x Null = Null
symbol_with f x Uninit = Uninit
symbol_with f x Dangling = Dangling
symbol_with f x (Ref r) = Ref r
symbol_with f x (Cell s ds ss) = Cell s (slice_set ds f x) ss

-- the rule at the top with the datum
abbrev pub top_with : Automaton → ℕ → Datum → Rule
top_with a f x = record (top_rule a) { symbol = symbol_with f x (top_rule a).symbol }

-- the automaton with the datum in the one rule at its top, at a root state of its own
abbrev pub dated : Automaton → ℕ → Datum → Automaton
dated a f x = chosen a (top_with a f x)

-- the forest with the datum in data field f of root r
abbrev pub dated_at : Forest → ℕ → ℕ → Datum → Forest
dated_at F r f x = with_component F r (dated (component_at F.autos r) f x)
