-- What the rules of a state give.
use Rattle.std.specs.Prelude.{◌≡◌, ◌⊎◌, ℕ, false, List, [], ◌∷◌, ◌++◌}
use Rattle.fore_base.specs.Lists.{IsIn, Every}
use Rattle.ta_core.specs.Language.{HasTree}
use Rattle.ta_core.specs.declared.auto.Rule.{Rule}
use Rattle.fa_core.specs.declared.forest.Target.{Target}
use Rattle.fa_core.specs.Cells.{is_leaf}
use Rattle.fa_core.specs.Member.{leaf_symbol}

-- a rule of the state is of this leaf
abbrev pub HasLeafRule : List Rule → ℕ → Target → Type 0
HasLeafRule rules q y = (x : Rule) × IsIn x rules × (x.state ≡ q) × (x.symbol ≡ leaf_symbol y)

-- the rule is of a cell at the state, and each child of it has a tree
abbrev pub IsCellRule : List Rule → ℕ → Rule → Type 0
IsCellRule rules q x = (x.state ≡ q) × (is_leaf x.symbol ≡ false) × Every (HasTree rules) x.children

-- some rule of the list is of a cell at the state, and each child of it has a tree
abbrev pub HasCellRule : List Rule → ℕ → List Rule → Type 0
HasCellRule rules q xs = (x : Rule) × IsIn x xs × IsCellRule rules q x

-- ys has the items of xs, and x once
abbrev pub IsAdded : {X : Type 0} → List X → X → List X → Type 0
IsAdded xs x ys = (IsIn x xs × (ys ≡ xs)) ⊎ ((IsIn x xs → ⊥) × (ys ≡ xs ++ x ∷ []))
