-- What box edges give to the cells of the roots, whichever trees stand at these.
use Rattle.std.specs.Prelude.{ℕ, ◌<◌, List, [], length, slice_index_or}
use Rattle.ta_core.specs.Auto.{Automaton}
use Rattle.ta_core.specs.declared.tree.Tree.{Tree}
use Rattle.fa_core.specs.declared.faces.BoxFace.{BoxFace}
use Rattle.fa_core.specs.Rearranged.{Rearranged}
use Rattle.fa_core.specs.Filled.{Choice, given_at}

-- what is given at root r, by a list with an item for each root
abbrev pub given_to : List (List ℕ) → ℕ → List ℕ
given_to given r = slice_index_or given r []

-- `above` says for each root of the components what each choice of trees gives there, in any order
abbrev pub IsGivenAt : List BoxFace → List Automaton → (ℕ → List ℕ) → Type 0
IsGivenAt bs autos above = (ts : List Tree) → Choice autos ts → (r : ℕ) → r < length autos
    → Rearranged (given_at bs ts r) (above r)
