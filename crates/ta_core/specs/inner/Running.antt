-- The states to which a tree has a run, made from the leaves upward.
use Rattle.std.specs.Prelude.{◌≡◌, ℕ, Bool, List}
use Rattle.fore_base.specs.Marks.{MarksOf}
use Rattle.ta_core.specs.Tops.{Tops}
use Rattle.ta_core.specs.declared.auto.Rule.{Rule}
use Rattle.ta_core.specs.declared.running.Task.{Task}
use Rattle.ta_core.specs.declared.running.Task.TheVariants.{Visit, Build}
use Rattle.ta_core.specs.declared.tree.Tree.{Tree, out-Tree}
use Rattle.ta_core.specs.inner.Tasks.{Todo, visit, build}

-- the task, of the tree that it speaks of
abbrev pub seen : Task → Todo Tree Tree
seen (Visit t) = visit t.now
seen (Build t) = build t.now

-- of a tree that is visited nothing is asked
abbrev pub IsTree : Tree → Type 0
IsTree t = Unit {0}

-- a tree is built by itself, over its children
abbrev pub IsOver : Tree → Tree → List Tree → Type 0
IsOver t u below = (t ≡ u) × (below ≡ (out-Tree u).children)

-- the marks are of the states to which rules with the tree's symbol lead from the sets
abbrev pub MarksTops : List Rule → ℕ → Tree → List (List Bool) → List Bool → Type 0
MarksTops rules n t sets marks = MarksOf n (Tops rules (out-Tree t).symbol sets) marks
