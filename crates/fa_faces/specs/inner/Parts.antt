-- What is known of a box after each step of the decision.
use Rattle.std.specs.Prelude.{◌≡◌, ◌<◌, ◌^◌, ℕ, List, length, slice_get, Some}
use Rattle.fore_base.specs.Lists.{IsIn, Every}
use Rattle.ta_core.specs.Auto.{Automaton}
use Rattle.ta_core.specs.Language.{InLanguage, IsTrim}
use Rattle.ta_core.specs.declared.tree.Tree.{Tree}
use Rattle.fa_core.specs.declared.boxes.BoxDef.{BoxDef}
use Rattle.fa_core.specs.declared.faces.BoxFace.{BoxFace}
use Rattle.fa_core.specs.declared.faces.Face.{Face}
use Rattle.fa_core.specs.declared.signature.Signature.{Signature}
use Rattle.fa_core.specs.Boxes.{PortsCover}
use Rattle.fa_core.specs.Filled.{Choice, HasSome, IsTopped}
use Rattle.fa_core.specs.Rearranged.{IsRising}
use Rattle.fa_box_rules.specs.Cells.{AreRight}
use Rattle.fa_box_rules.specs.Rules.{Inside, IsWellNamed, HaveSignatures, Gives, IsFaceOf, port_count, structs_of}
use Rattle.fa_box_rules.specs.Signs.{AreSigns}
use Rattle.fa_boxes.specs.Tops.{HasNoLeaf}

-- it is well named, each component has a tree, and each state takes part
pub record IsReady (face : Face) (b : Inside) : Type 0 where
  pub named : IsWellNamed face b
  pub full : Every HasSome b.autos
  pub trim : Every IsTrim b.autos
  pub count : length b.autos < 2 ^ 32

-- not B4
abbrev pub AllRight : Face → Inside → Type 0
AllRight face b = (ts : List Tree) → Choice b.autos ts → AreRight face ts 0 (port_count b.output) ts

-- not B5, what stands at the tops: cells, the ports' of the structs that the box says, which cover alike
pub record AreTopsRight (bs : List BoxFace) (b : Inside) : Type 0 where
  pub cells : Every HasNoLeaf b.autos
  pub tops : (a : Automaton) (t : Tree) → IsIn a b.autos → InLanguage a t → (u : ℕ) × IsTopped u t
  pub structs : (r s u : ℕ) (a : Automaton) (t : Tree) → slice_get (structs_of b.input b.output) r ≡ Some s
      → slice_get b.autos r ≡ Some a → InLanguage a t → IsTopped u t → u ≡ s
  pub covers : PortsCover bs b.output b.autos

-- the lists have the signatures of the components, of which all trees of a state have one
abbrev pub AreSigned : List BoxFace → List Automaton → List (List Signature) → Type 0
AreSigned bs autos lists = AreSigns bs autos lists × Every (HaveSignatures bs) autos

-- the port has these fields for each choice of trees, in rising order
abbrev pub IsGiven : List BoxFace → List Automaton → ℕ → List ℕ → Type 0
IsGiven bs autos r fields = Gives bs autos r fields × IsRising fields

-- neither B7 nor B4 nor B5: all but what is reached
pub record IsShown (face : Face) (T : List BoxDef) (b : Inside) (x : BoxFace) : Type 0 where
  pub full : Every HasSome b.autos
  pub right : AllRight face b
  pub tops : AreTopsRight face.boxes b
  pub signatures : Every (HaveSignatures face.boxes) b.autos
  pub one : IsFaceOf face T b x
