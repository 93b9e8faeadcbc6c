-- Trees of one state with different signatures.
use Rattle.std.specs.Prelude.{◌≢◌, ℕ, List}
use Rattle.fore_base.specs.Lists.{IsIn}
use Rattle.ta_core.specs.Auto.{Automaton}
use Rattle.ta_core.specs.Language.{RunOf, TakesPart}
use Rattle.ta_core.specs.declared.tree.Tree.{Tree}
use Rattle.fa_core.specs.declared.faces.BoxFace.{BoxFace}
use Rattle.fa_core.specs.Ways.{signature}

-- two trees of a state that takes part have different signatures
abbrev pub SignsApart : List BoxFace → Automaton → Type 0
SignsApart bs a = (q : ℕ) × (t : Tree) × (u : Tree) × TakesPart a q × RunOf a.rules q t × RunOf a.rules q u
    × (signature bs t ≢ signature bs u)

-- so of some component
abbrev pub SomeSignsApart : List BoxFace → List Automaton → Type 0
SomeSignsApart bs autos = (a : Automaton) × IsIn a autos × SignsApart bs a
