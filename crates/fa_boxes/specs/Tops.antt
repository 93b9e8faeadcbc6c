-- What stands at the tops of a component's trees.
use Rattle.std.specs.Prelude.{◌≡◌, ℕ, false, List}
use Rattle.fore_base.specs.Lists.{IsIn}
use Rattle.ta_core.specs.Auto.{Automaton}
use Rattle.ta_core.specs.Language.{InLanguage}
use Rattle.ta_core.specs.declared.tree.Tree.{Tree, out-Tree}
use Rattle.fa_core.specs.declared.faces.BoxFace.{BoxFace}
use Rattle.fa_core.specs.Cells.{is_leaf}
use Rattle.fa_core.specs.Filled.{IsTopped}
use Rattle.fa_core.specs.Folding.{covered_fields}

-- no leaf is one of the trees
abbrev pub HasNoLeaf : Automaton → Type 0
HasNoLeaf a = (t : Tree) → InLanguage a t → is_leaf (out-Tree t).symbol ≡ false

-- each tree has a cell of struct s at its top
abbrev pub AreTopped : ℕ → Automaton → Type 0
AreTopped s a = (t : Tree) → InLanguage a t → IsTopped s t

-- a field that one tree covers by the slots at its top, and another does not
abbrev pub CoverApart : List BoxFace → Automaton → Type 0
CoverApart bs a = (f : ℕ) × (t : Tree) × (u : Tree) × InLanguage a t × InLanguage a u × IsIn f (covered_fields bs t)
    × (IsIn f (covered_fields bs u) → ⊥)
