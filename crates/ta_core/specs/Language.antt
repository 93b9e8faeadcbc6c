-- Runs and languages of tree automata (CAV 2011, section 2).
use Rattle.std.specs.Prelude.{◌≡◌, ◌↔◌, ℕ, ◌<◌, ◌≤◌, ◌+◌, List, [], ◌∷◌}
use Rattle.fore_base.specs.Lists.{IsIn, sum_of}
use Rattle.ta_core.specs.Auto.{Automaton}
use Rattle.ta_core.specs.declared.auto.Rule.{Rule}
use Rattle.ta_core.specs.declared.tree.Tree.{Tree, Tree-F, out-Tree, fold-Tree}

mutual
  -- the tree has a run to state q: some rule has state q and the tree's symbol, and each child has a run to the rule's
  -- child in its place
  pub data RunOf (rules : List Rule) : ℕ → Tree → Type 0 where
    run : {q : ℕ} {t : Tree} (r : Rule) → IsIn r rules → r.state ≡ q → r.symbol ≡ (out-Tree t).symbol
        → RunEach rules r.children (out-Tree t).children → RunOf rules q t

  -- the trees are as many as the states, and each has a run to the state in its place
  pub data RunEach (rules : List Rule) : List ℕ → List Tree → Type 0 where
    run_none : RunEach rules [] []
    run_more : {q : ℕ} {qs : List ℕ} {t : Tree} {ts : List Tree} → RunOf rules q t → RunEach rules qs ts
        → RunEach rules (q ∷ qs) (t ∷ ts)

-- the tree is in the automaton's language: it has a run to a root state
abbrev pub InLanguage : Automaton → Tree → Type 0
InLanguage a t = (q : ℕ) × IsIn q a.roots × RunOf a.rules q t

-- the automaton accepts no tree
abbrev pub IsBarren : Automaton → Type 0
IsBarren a = (t : Tree) → InLanguage a t → ⊥

-- each tree of a is one of b
abbrev pub IsWithin : Automaton → Automaton → Type 0
IsWithin a b = (t : Tree) → InLanguage a t → InLanguage b t

-- a and b have the same trees
abbrev pub HasSameLanguage : Automaton → Automaton → Type 0
HasSameLanguage a b = (t : Tree) → InLanguage a t ↔ InLanguage b t

-- some tree has a run to state q
abbrev pub HasTree : List Rule → ℕ → Type 0
HasTree rules q = (t : Tree) × RunOf rules q t

mutual
  -- some run of the tree to state p has state q at some node
  pub data PassesBy (rules : List Rule) (q : ℕ) : ℕ → Tree → Type 0 where
    at_top : {p : ℕ} {t : Tree} → p ≡ q → RunOf rules p t → PassesBy rules q p t
    below : {p : ℕ} {t : Tree} (r : Rule) → IsIn r rules → r.state ≡ p → r.symbol ≡ (out-Tree t).symbol
        → OnePasses rules q r.children (out-Tree t).children → PassesBy rules q p t

  -- each tree has a run to the state in its place, and some run of one of them has state q at some node
  pub data OnePasses (rules : List Rule) (q : ℕ) : List ℕ → List Tree → Type 0 where
    this_one : {p : ℕ} {ps : List ℕ} {t : Tree} {ts : List Tree} → PassesBy rules q p t → RunEach rules ps ts
        → OnePasses rules q (p ∷ ps) (t ∷ ts)
    later_one : {p : ℕ} {ps : List ℕ} {t : Tree} {ts : List Tree} → RunOf rules p t → OnePasses rules q ps ts
        → OnePasses rules q (p ∷ ps) (t ∷ ts)

-- the state takes part in the run of some tree of the language
abbrev pub TakesPart : Automaton → ℕ → Type 0
TakesPart a q = (p : ℕ) × (t : Tree) × IsIn p a.roots × PassesBy a.rules q p t

-- each state takes part
abbrev pub IsTrim : Automaton → Type 0
IsTrim a = (q : ℕ) → q < a.states → TakesPart a q

-- the nodes of a tree, each once
abbrev pub nodes_step : Tree-F ℕ → ℕ
nodes_step t = sum_of t.children + 1

abbrev pub nodes : Tree → ℕ
nodes = fold-Tree ℕ nodes_step

-- a tree of the language with the fewest nodes
abbrev pub IsSmallest : Automaton → Tree → Type 0
IsSmallest a t = InLanguage a t × ((u : Tree) → InLanguage a u → nodes t ≤ nodes u)
