-- Components whose trees have cells of one struct at their tops.
use Rattle.std.specs.Prelude.{ℕ}
use Rattle.ta_core.specs.Auto.{Automaton}
use Rattle.ta_core.specs.Language.{InLanguage}
use Rattle.ta_core.specs.declared.tree.Tree.{Tree}
use Rattle.fa_core.specs.Filled.{IsTopped}

-- a cell of one struct stands at the top of each tree
abbrev pub HasOneStruct : Automaton → Type 0
HasOneStruct a = (s : ℕ) × ((t : Tree) → InLanguage a t → IsTopped s t)
