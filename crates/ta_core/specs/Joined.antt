-- Automata with other state numbers, and two automata side by side.
use Rattle.std.specs.Prelude.{◌↔◌, ◌⊎◌, ℕ, ◌<◌, ◌+◌, ◌^◌, ◌++◌, map}
use Rattle.fore_base.specs.Lists.{Every}
use Rattle.ta_core.specs.Auto.{Automaton}
use Rattle.ta_core.specs.Language.{InLanguage}
use Rattle.ta_core.specs.Renumbered.{renumbered}
use Rattle.ta_core.specs.declared.auto.Rule.{Rule}
use Rattle.ta_core.specs.declared.tree.Tree.{Tree}

-- n is added to the state
abbrev pub shift : ℕ → ℕ → ℕ
shift n q = q + n

-- n is added to each state
abbrev pub shifted : ℕ → Automaton → Automaton
shifted n a =
    record { states = a.states + n; roots = map (shift n) a.roots; rules = map (renumbered (shift n)) a.rules }

-- the states of a, and behind them those of b
abbrev pub united : Automaton → Automaton → Automaton
united a b =
    record {
      states = a.states + b.states;
      roots = a.roots ++ map (shift a.states) b.roots;
      rules = a.rules
          ++ map (renumbered (shift a.states)) b.rules;
    }

-- the trees of c are those of a and those of b
abbrev pub IsUnion : Automaton → Automaton → Automaton → Type 0
IsUnion a b c = (t : Tree) → InLanguage c t ↔ (InLanguage a t ⊎ InLanguage b t)

-- the state with n added fits 32 bits
abbrev pub CanShift : ℕ → ℕ → Type 0
CanShift n q = q + n < 2 ^ 32

-- so do the states of the rule
abbrev pub CanShiftRule : ℕ → Rule → Type 0
CanShiftRule n r = CanShift n r.state × Every (CanShift n) r.children
