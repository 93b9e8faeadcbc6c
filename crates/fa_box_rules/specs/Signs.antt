-- The signatures that the trees of components have, and choices of them.
use Rattle.std.specs.Prelude.{◌≡◌, List}
use Rattle.fore_base.specs.Lists.{IsIn, Paired}
use Rattle.ta_core.specs.Auto.{Automaton}
use Rattle.ta_core.specs.Language.{InLanguage}
use Rattle.ta_core.specs.declared.tree.Tree.{Tree}
use Rattle.fa_core.specs.declared.faces.BoxFace.{BoxFace}
use Rattle.fa_core.specs.declared.signature.Signature.{Signature}
use Rattle.fa_core.specs.Ways.{signature}

-- each tree of the component has one of these signatures, and each of them is that of some tree
pub record AreSignsOf (bs : List BoxFace) (a : Automaton) (ss : List Signature) : Type 0 where
  pub each : (t : Tree) → InLanguage a t → (s : Signature) × IsIn s ss × (s.refs ≡ signature bs t)
  pub some : (s : Signature) → IsIn s ss → (t : Tree) × InLanguage a t × (s.refs ≡ signature bs t)

-- so for each component
abbrev pub AreSigns : List BoxFace → List Automaton → List (List Signature) → Type 0
AreSigns bs autos lists = Paired (AreSignsOf bs) autos lists

-- one signature of each list
abbrev pub Picks : List (List Signature) → List Signature → Type 0
Picks lists ss = Paired (λ (s : Signature) (all : List Signature). IsIn s all) ss lists
