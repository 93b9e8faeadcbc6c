-- What automata keep of the trees of each state.
use Rattle.std.specs.Prelude.{◌↔◌, ℕ, ◌<◌}
use Rattle.fore_base.specs.Lists.{IsIn}
use Rattle.ta_core.specs.Auto.{Automaton}
use Rattle.ta_core.specs.Language.{RunOf, HasTree}
use Rattle.ta_core.specs.declared.tree.Tree.{Tree}

-- the same trees have runs to p in b as to q in a
abbrev pub SameTrees : Automaton → ℕ → Automaton → ℕ → Type 0
SameTrees a q b p = (t : Tree) → RunOf b.rules p t ↔ RunOf a.rules q t

-- each state of b has exactly the trees of some state of a
abbrev pub KeepsStates : Automaton → Automaton → Type 0
KeepsStates a b = (p : ℕ) → p < b.states → (q : ℕ) × (q < a.states) × SameTrees a q b p

-- each root state of b has the trees of one of a, and each root state of a that has a tree those of one of b
abbrev pub SameRootRuns : Automaton → Automaton → Type 0
SameRootRuns a b = ((p : ℕ) → IsIn p b.roots → (q : ℕ) × IsIn q a.roots × SameTrees a q b p)
    × ((q : ℕ) → IsIn q a.roots → HasTree a.rules q → (p : ℕ) × IsIn p b.roots × SameTrees a q b p)
