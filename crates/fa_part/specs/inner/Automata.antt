-- Automata with other numbers in their references, and those of the ports of a part.
use Rattle.std.specs.Prelude.{ℕ, ◌+◌, List, [], ◌∷◌, ◌++◌, map}
use Rattle.ta_core.specs.Auto.{Automaton}
use Rattle.ta_core.specs.declared.auto.Rule.{Rule}
use Rattle.ta_core.specs.declared.symbol.Symbol.TheVariants.{Cell}
use Rattle.fa_core.specs.Folding.{is_one_of}
use Rattle.fa_core.specs.declared.forest.Target.TheVariants.{At}
use Rattle.fa_core.specs.Placed.{placed_auto}
use Rattle.fa_part.specs.inner.Edges.{top_edges}

-- the automaton of the trees with f of the root of each reference
abbrev pub moved_auto : (ℕ → ℕ) → Automaton → Automaton
moved_auto f a = placed_auto (λ k. At (f k)) a

-- the rule of a port, at a state of its own: a cell of the struct without data, with the slots of these fields alone
abbrev pub port_rule : ℕ → List ℕ → Automaton → Rule
port_rule shape fs a = record {
  state = a.states;
  symbol = Cell shape [] (map (λ e. e.0) (top_edges (is_one_of fs) a));
  children = map (λ e. e.1) (top_edges (is_one_of fs) a);
}

-- the automaton with that rule alone at the top, and f of the root of each reference
abbrev pub port_auto : (ℕ → ℕ) → ℕ → List ℕ → Automaton → Automaton
port_auto f shape fs a = record {
  states = a.states + 1;
  roots = a.states ∷ [];
  rules = (moved_auto f a).rules ++ port_rule shape fs a ∷ [];
}
