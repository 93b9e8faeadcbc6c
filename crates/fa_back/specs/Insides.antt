-- What the closure of a port says of the inside of a box, for every choice of signatures of its components.
use Rattle.std.specs.Prelude.{ℕ, ◌<◌, List, [], ◌∷◌, length}
use Rattle.fore_base.specs.Lists.{Every}
use Rattle.ta_core.specs.Auto.{Automaton, IsRanked}
use Rattle.ta_core.specs.declared.tree.Tree.{Tree}
use Rattle.fa_core.specs.declared.boxes.BoxDef.{BoxDef}
use Rattle.fa_core.specs.declared.faces.BoxFace.{BoxFace}
use Rattle.fa_core.specs.declared.faces.Face.{Face}
use Rattle.fa_core.specs.declared.signature.Signature.{Signature}
use Rattle.fa_core.specs.Boxes.{InsideFits, InsideRulesFit, port_fields}
use Rattle.fa_core.specs.Filled.{Choice}
use Rattle.fa_back.specs.Reached.{AreSignaturesOf, SignReached}

-- the components are those of an inside with this face: their rules fit, and so does each choice of trees
pub record IsInside (face : Face) (x : BoxFace) (autos : List Automaton) : Type 0 where
  pub rules : InsideRulesFit face (port_fields x x.output) autos
  pub fits : (ts : List Tree) → Choice autos ts → InsideFits face x ts

-- the rules of the insides have as many children as their symbols
abbrev pub AreRankedInsides : List BoxDef → Type 0
AreRankedInsides defs = Every (λ (b : BoxDef). Every IsRanked b.inside.autos) defs

-- from component i each component is reached
abbrev pub ReachesAll : List BoxFace → List Automaton → ℕ → Type 0
ReachesAll bs autos i = (ss : List Signature) → AreSignaturesOf bs autos ss → (r : ℕ) → r < length autos
    → SignReached ss (i ∷ []) r

-- from component i component j is reached
abbrev pub AlwaysReaches : List BoxFace → List Automaton → ℕ → ℕ → Type 0
AlwaysReaches bs autos i j = (ss : List Signature) → AreSignaturesOf bs autos ss → SignReached ss (i ∷ []) j

-- from component i component j is not reached
abbrev pub NeverReaches : List BoxFace → List Automaton → ℕ → ℕ → Type 0
NeverReaches bs autos i j = (ss : List Signature) → AreSignaturesOf bs autos ss → SignReached ss (i ∷ []) j → ⊥
