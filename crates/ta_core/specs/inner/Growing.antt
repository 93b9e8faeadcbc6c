-- A tree that is made of the least rules of its states, from the leaves upward.
use Rattle.std.specs.Prelude.{◌≡◌, ℕ, List, ◌∷◌, ◌++◌, map, Option, IsSome}
use Rattle.fore_base.specs.Lists.{IsIn}
use Rattle.ta_core.specs.declared.auto.Rule.{Rule}
use Rattle.ta_core.specs.declared.growing.Task.{Task}
use Rattle.ta_core.specs.declared.growing.Task.TheVariants.{Visit, Build}
use Rattle.ta_core.specs.declared.tree.Tree.{Tree, roll-Tree}
use Rattle.ta_core.specs.inner.Sizes.{size_at, IsLeastRule}
use Rattle.ta_core.specs.inner.Tasks.{Todo, visit, build}

-- the task, of the rule that it speaks of
abbrev pub seen : Task → Todo ℕ Rule
seen (Visit q) = visit q
seen (Build r) = build r.now

-- the state has a size
abbrev pub IsSized : List (Option ℕ) → ℕ → Type 0
IsSized sizes q = IsSome (size_at sizes q)

-- the tree at the state is built by this one of its least rules, over those at the rule's children
abbrev pub IsOver : List Rule → List (Option ℕ) → ℕ → Rule → List ℕ → Type 0
IsOver rules sizes q r below = IsIn r rules × IsLeastRule sizes q r × IsSized sizes q × (below ≡ r.children)

-- a task for the tree of a least rule of the state, and behind it, so that they come first, one for each child
abbrev pub Asks : List Rule → List (Option ℕ) → ℕ → List (Todo ℕ Rule) → List (Todo ℕ Rule) → Type 0
Asks rules sizes q old new = (r : Rule) × IsIn r rules × IsLeastRule sizes q r
    × (new ≡ old ++ build r ∷ map visit r.children)

-- the tree of the rule over these children
abbrev pub IsTreeOf : Rule → List Tree → Tree → Type 0
IsTreeOf r ts t = t ≡ roll-Tree (record { symbol = r.symbol; children = ts })
