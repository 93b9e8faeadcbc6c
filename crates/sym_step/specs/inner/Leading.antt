-- Whether ways of the trees of a state lead back.
use Rattle.std.specs.Prelude.{◌≡◌, ℕ, List, Option, Some, false}
use Rattle.fore_base.specs.Lists.{Every}
use Rattle.ta_core.specs.Auto.{Automaton}
use Rattle.ta_core.specs.Language.{RunOf}
use Rattle.ta_core.specs.declared.tree.Tree.{Tree}
use Rattle.fa_core.specs.declared.faces.BoxFace.{BoxFace}
use Rattle.fa_core.specs.Ways.{signature}

-- no whole way of a tree of the component's state leads back
abbrev pub IsForwardAt : List BoxFace → Option Automaton → ℕ → Type 0
IsForwardAt bs o q =
    (a : Automaton) (t : Tree) → o ≡ Some a → RunOf a.rules q t → Every (λ m. m.back ≡ false) (signature bs t)
