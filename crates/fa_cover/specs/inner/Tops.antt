-- The symbols at the tops of trees.
use Rattle.std.specs.Prelude.{◌≡◌}
use Rattle.fore_base.specs.Lists.{IsIn, Every}
use Rattle.ta_core.specs.Auto.{Automaton}
use Rattle.ta_core.specs.Language.{HasTree}
use Rattle.ta_core.specs.declared.auto.Rule.{Rule}
use Rattle.ta_core.specs.declared.symbol.Symbol.{Symbol}

-- the rule is one of a root state, and has the symbol
abbrev pub IsRootRule : Automaton → Symbol → Rule → Type 0
IsRootRule b y s = IsIn s.state b.roots × (s.symbol ≡ y)

-- a rule of a root state has the symbol
abbrev pub HasRootRule : Automaton → Symbol → Type 0
HasRootRule b y = (s : Rule) × IsIn s b.rules × IsRootRule b y s

-- where the rule is one of a root state of a, its symbol is that of a rule of a root state of b
abbrev pub KeepsSymbol : Automaton → Automaton → Rule → Type 0
KeepsSymbol a b r = IsIn r.state a.roots → HasRootRule b r.symbol

-- so it is where the rule stands at the top of a tree: where each of its children has a tree
abbrev pub KeepsTop : Automaton → Automaton → Rule → Type 0
KeepsTop a b r = Every (HasTree a.rules) r.children → KeepsSymbol a b r

-- so it is for each rule of a
abbrev pub KeepsTops : Automaton → Automaton → Type 0
KeepsTops a b = Every (KeepsTop a b) a.rules
