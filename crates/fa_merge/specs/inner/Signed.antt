-- States whose trees refer to some root or to none, and marks of the roots that are reached.
use Rattle.std.specs.Prelude.{◌≡◌, ℕ, ◌<◌, Bool, false, length, slice_index_or, List, [], Option, Some}
use Rattle.fore_base.specs.Lists.{IsIn}
use Rattle.fore_base.specs.Marks.{IsMarked}
use Rattle.ta_core.specs.Auto.{Automaton}
use Rattle.ta_core.specs.Language.{HasTree, RunOf}
use Rattle.ta_core.specs.declared.tree.Tree.{Tree}
use Rattle.fa_core.specs.declared.faces.BoxFace.{BoxFace}
use Rattle.fa_core.specs.declared.faces.Face.{Face}
use Rattle.fa_core.specs.declared.forest.Forest.{Forest}
use Rattle.fa_core.specs.Ways.{signature}
use Rattle.fa_merge.specs.Reached.{IsReached, IsUnreached}

-- the state is a root state of the automaton, and has a tree
abbrev pub IsLiveRoot : Automaton → ℕ → Type 0
IsLiveRoot a q = IsIn q a.roots × HasTree a.rules q

-- the component's state has a tree
abbrev pub IsLiveOf : Option Automaton → ℕ → Type 0
IsLiveOf o q = (a : Automaton) → o ≡ Some a → HasTree a.rules q

-- no tree of the component's state refers to a root
abbrev pub IsSilentOf : List BoxFace → Option Automaton → ℕ → Type 0
IsSilentOf bs o q = (a : Automaton) (t : Tree) → o ≡ Some a → RunOf a.rules q t → signature bs t ≡ []

-- a mark for each root: the marked ones are reached, whichever trees are taken, and the others are not
pub record AreReachMarks (face : Face) (F : Forest) (marks : List Bool) : Type 0 where
  pub long : length marks ≡ length F.autos
  pub marked : (r : ℕ) → IsMarked marks r → IsReached face F r
  pub unmarked : (r : ℕ) → (IsMarked marks r → ⊥) → IsUnreached face F r

-- the number without a mark before which each has one
pub record IsFirstUnmarked (marks : List Bool) (r : ℕ) : Type 0 where
  pub within : r < length marks
  pub unmarked : slice_index_or marks r false ≡ false
  pub first : (k : ℕ) → k < r → IsMarked marks k
