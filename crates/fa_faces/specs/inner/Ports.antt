-- What stands at the tops of the trees of ports.
use Rattle.std.specs.Prelude.{◌≡◌, ◌≢◌, ◌⊎◌, ℕ, true, List}
use Rattle.fore_base.specs.Lists.{IsIn}
use Rattle.ta_core.specs.Auto.{Automaton}
use Rattle.ta_core.specs.Language.{InLanguage}
use Rattle.ta_core.specs.declared.tree.Tree.{Tree, out-Tree}
use Rattle.fa_core.specs.declared.faces.BoxFace.{BoxFace}
use Rattle.fa_core.specs.Boxes.{CoverAlike, CoverSome}
use Rattle.fa_core.specs.Cells.{is_leaf}
use Rattle.fa_core.specs.Filled.{IsTopped, HasField}
use Rattle.fa_core.specs.Folding.{covered_fields}
use Rattle.fa_boxes.specs.Tops.{AreTopped, CoverApart}

-- a component accepts a leaf
abbrev pub TakesLeaf : List Automaton → Type 0
TakesLeaf autos = (a : Automaton) × (t : Tree) × IsIn a autos × InLanguage a t × (is_leaf (out-Tree t).symbol ≡ true)

-- the trees of the port have cells of struct s at their tops, which cover the same fields
abbrev pub IsPortRight : List BoxFace → ℕ → Automaton → Type 0
IsPortRight bs s a = AreTopped s a × CoverAlike bs a

-- a tree has a cell of another struct
abbrev pub OtherStruct : ℕ → Automaton → Type 0
OtherStruct s a = (u : ℕ) × (t : Tree) × InLanguage a t × IsTopped u t × (u ≢ s)

-- or two of them cover different fields
abbrev pub PortApart : List BoxFace → ℕ → Automaton → Type 0
PortApart bs s a = OtherStruct s a ⊎ CoverApart bs a

-- the trees of the input cover some field too
abbrev pub IsInputRight : List BoxFace → ℕ → Automaton → Type 0
IsInputRight bs s a = IsPortRight bs s a × CoverSome bs a

-- or one of them covers none
abbrev pub CoversNone : List BoxFace → Automaton → Type 0
CoversNone bs a = (t : Tree) × InLanguage a t × (HasField (covered_fields bs t) → ⊥)

abbrev pub InputApart : List BoxFace → ℕ → Automaton → Type 0
InputApart bs s a = PortApart bs s a ⊎ CoversNone bs a
