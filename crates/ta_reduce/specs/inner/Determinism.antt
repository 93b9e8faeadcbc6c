-- Bottom-up deterministic automata.
use Rattle.std.specs.Prelude.{◌≡◌, List}
use Rattle.ta_core.specs.declared.auto.Rule.{Rule}
use Rattle.ta_reduce.specs.inner.Thinned.{EachLater}

-- the rules have one left side: one symbol and the same children
abbrev pub HasSameLeft : Rule → Rule → Type 0
HasSameLeft r s = (r.symbol ≡ s.symbol) × (r.children ≡ s.children)

-- the rules have two left sides
abbrev pub IsApart : Rule → Rule → Type 0
IsApart r s = HasSameLeft r s → ⊥

-- no two rules, at two places of the list, have one left side
abbrev pub IsDeterministic : List Rule → Type 0
IsDeterministic rules = EachLater IsApart rules
