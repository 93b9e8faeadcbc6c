-- The signatures of components.
use Rattle.std.specs.Prelude.{◌≡◌, List}
use Rattle.ta_core.specs.Auto.{Automaton}
use Rattle.ta_core.specs.Language.{InLanguage}
use Rattle.ta_core.specs.declared.tree.Tree.{Tree}
use Rattle.fa_core.specs.declared.faces.BoxFace.{BoxFace}
use Rattle.fa_core.specs.declared.signature.Signature.{Signature}
use Rattle.fa_core.specs.Ways.{signature}

-- each tree of the component has the signature
abbrev pub IsSignatureOf : List BoxFace → Automaton → Signature → Type 0
IsSignatureOf bs a s = (t : Tree) → InLanguage a t → signature bs t ≡ s.refs
