-- The signature of a state.
use Rattle.std.specs.Prelude.{◌≡◌, ℕ, List}
use Rattle.ta_core.specs.Auto.{Automaton}
use Rattle.ta_core.specs.Language.{RunOf, HasTree}
use Rattle.ta_core.specs.declared.tree.Tree.{Tree}
use Rattle.fa_core.specs.declared.faces.BoxFace.{BoxFace}
use Rattle.fa_core.specs.declared.signature.RefMark.{RefMark}
use Rattle.fa_core.specs.Ways.{signature}

-- the marks are the signature of each tree of state q of a, and some tree is of that state
pub record HasMarks (bs : List BoxFace) (a : Automaton) (q : ℕ) (marks : List RefMark) : Type 0 where
  pub each : (t : Tree) → RunOf a.rules q t → marks ≡ signature bs t
  pub some : HasTree a.rules q
