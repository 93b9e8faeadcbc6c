-- Automata as contracts see them.
use Rattle.std.specs.Prelude.{◌≡◌, ℕ, ◌<◌, List, length}
use Rattle.fore_base.specs.Lists.{Every}
use Rattle.ta_core.specs.declared.auto.Rule.{Rule}
use Rattle.ta_core.specs.Arity.{arity}

-- a tree automaton, whose states are the numbers below `states`
pub record Automaton : Type 0 where
  pub states : ℕ
  pub roots : List ℕ
  pub rules : List Rule

-- the states of the rule are below n, and its children are as many as its symbol has
abbrev pub IsRankedRule : ℕ → Rule → Type 0
IsRankedRule n r = (r.state < n) × Every (λ q. q < n) r.children × (length r.children ≡ arity r.symbol)

-- each state is in range, and each rule has as many children as its symbol
abbrev pub IsRanked : Automaton → Type 0
IsRanked a = Every (λ q. q < a.states) a.roots × Every (IsRankedRule a.states) a.rules

-- the automaton of these parts
abbrev pub automaton : ℕ → List ℕ → List Rule → Automaton
automaton n qs rs = record { states = n; roots = qs; rules = rs }
