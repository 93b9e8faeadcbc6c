-- Box edges that lead back: where one forest is to have one signature at each state, such an edge gives the cell at its
-- end something.
use Rattle.std.specs.Prelude.{◌≡◌, ◌≢◌, true, List, []}
use Rattle.fore_base.specs.Lists.{Every}
use Rattle.ta_core.specs.Auto.{Automaton}
use Rattle.ta_core.specs.declared.symbol.Slot.{Slot}
use Rattle.ta_core.specs.declared.symbol.Slot.TheVariants.{Field, Link, Hook}
use Rattle.ta_core.specs.declared.symbol.Symbol.{Symbol}
use Rattle.ta_core.specs.declared.symbol.Symbol.TheVariants.{Null, Uninit, Dangling, Ref, Cell}
use Rattle.fa_core.specs.declared.faces.BoxFace.{BoxFace}
use Rattle.fa_core.specs.Ways.{back_of, gives_out_of}

-- where the edge leads back, its box gives its output something
abbrev pub SlotGives : List BoxFace → Slot → Type 0
SlotGives bs (Field f) = Unit {0}
SlotGives bs (Link b) = back_of bs b ≡ true → gives_out_of bs b ≢ []
SlotGives bs (Hook b) = Unit {0}

-- so it is for each slot of the symbol
abbrev pub SymbolGives : List BoxFace → Symbol → Type 0
SymbolGives bs Null = Unit {0}
SymbolGives bs Uninit = Unit {0}
SymbolGives bs Dangling = Unit {0}
SymbolGives bs (Ref r) = Unit {0}
SymbolGives bs (Cell s ds ss) = Every (SlotGives bs) ss

-- for each rule
abbrev pub RulesGive : List BoxFace → Automaton → Type 0
RulesGive bs a = Every (λ r. SymbolGives bs r.symbol) a.rules
