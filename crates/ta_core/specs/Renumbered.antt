-- Automata whose states have other numbers.
use Rattle.std.specs.Prelude.{◌≡◌, ◌↔◌, ℕ, ◌<◌, List, [], ◌∷◌, map}
use Rattle.fore_base.specs.Lists.{IsIn}
use Rattle.ta_core.specs.Auto.{Automaton}
use Rattle.ta_core.specs.Language.{RunOf, RunEach, HasTree}
use Rattle.ta_core.specs.declared.auto.Rule.{Rule}
use Rattle.ta_core.specs.declared.tree.Tree.{Tree}

-- the rule with f of each state
abbrev pub renumbered : (ℕ → ℕ) → Rule → Rule
renumbered f r = record { state = f r.state; symbol = r.symbol; children = map f r.children }

-- the automaton with f of each state, all below n
abbrev pub image : ℕ → (ℕ → ℕ) → Automaton → Automaton
image n f a = record { states = n; roots = map f a.roots; rules = map (renumbered f) a.rules }

-- xs is ys with some items left out
pub data IsSublist {X : Type 0} : List X → List X → Type 0 where
  sub_none : IsSublist [] []
  sub_skip : {y : X} {xs ys : List X} → IsSublist xs ys → IsSublist xs (y ∷ ys)
  sub_keep : {y : X} {xs ys : List X} → IsSublist xs ys → IsSublist (y ∷ xs) (y ∷ ys)

-- the states of b stand for different states of a, with the same trees; the rules and root states of b stand for some
-- of a's, in a's order; each root state of a that has a tree is stood for, and each rule that some tree can use of a
-- state that is stood for
pub record StandsFor (a b : Automaton) : Type 0 where
  pub of : ℕ → ℕ
  pub apart : (p q : ℕ) → p < b.states → q < b.states → of p ≡ of q → p ≡ q
  pub runs : (q : ℕ) (t : Tree) → q < b.states → RunOf b.rules q t ↔ RunOf a.rules (of q) t
  pub rules : IsSublist (map (renumbered of) b.rules) a.rules
  pub roots : IsSublist (map of b.roots) a.roots
  pub whole : (q : ℕ) → IsIn q a.roots → HasTree a.rules q → (p : ℕ) × IsIn p b.roots × (of p ≡ q)
  pub used : (q : ℕ) (r : Rule) (ts : List Tree) → q < b.states → IsIn r a.rules → r.state ≡ of q
      → RunEach a.rules r.children ts → IsIn r (map (renumbered of) b.rules)
