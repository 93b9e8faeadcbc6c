-- The states to which a tree has a run, by those to which its children have runs.
use Rattle.std.specs.Prelude.{◌≡◌, ℕ, Bool, true, List}
use Rattle.fore_base.specs.Lists.{IsIn}
use Rattle.ta_core.specs.declared.auto.Rule.{Rule}
use Rattle.ta_core.specs.declared.symbol.Symbol.{Symbol}
use Rattle.ta_core.specs.declared.tree.Tree.{Tree}
use Rattle.ta_core.specs.Language.{RunOf}
use Rattle.fore_base.specs.Marks.{MarksOf, marked_each}

-- the marks are of the states to which the tree has a run
abbrev pub AreStatesOf : List Rule → ℕ → Tree → List Bool → Type 0
AreStatesOf rules n t = MarksOf n (λ q. RunOf rules q t)

-- the rule has the symbol, and each child of it has a mark in the set in its place
abbrev pub IsTopRule : Symbol → List (List Bool) → Rule → Type 0
IsTopRule y sets r = (r.symbol ≡ y) × (marked_each r.children sets ≡ true)

-- a rule of the state has the symbol, and each child of it has a mark in the set in its place
abbrev pub Tops : List Rule → Symbol → List (List Bool) → ℕ → Type 0
Tops rules y sets q = (r : Rule) × IsIn r rules × (r.state ≡ q) × IsTopRule y sets r
