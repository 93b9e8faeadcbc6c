-- A forest cut by the signatures of its components.
use Rattle.std.specs.Prelude.{◌≡◌, List}
use Rattle.fore_base.specs.Lists.{IsIn, Every, Paired}
use Rattle.ta_core.specs.declared.tree.Tree.{Tree}
use Rattle.fa_core.specs.declared.faces.BoxFace.{BoxFace}
use Rattle.fa_core.specs.declared.forest.Forest.{Forest}
use Rattle.fa_core.specs.Filled.{Choice}
use Rattle.fa_signatures.specs.CutPieces.{IsPiece, ShareSignature, AreApart}

-- each component of G has the trees of one signature of F's in its place; targets and data are those of F
pub record IsCutForest (bs : List BoxFace) (F G : Forest) : Type 0 where
  pub autos : Paired (IsPiece bs) F.autos G.autos
  pub vars : G.vars ≡ F.vars
  pub data_vars : G.data_vars ≡ F.data_vars

-- each component of the one forest has a tree with the signature of one of the other's in its place
abbrev pub ShareSignatures : List BoxFace → Forest → Forest → Type 0
ShareSignatures bs F G = Paired (ShareSignature bs) F.autos G.autos

-- the forests cut F: each has one signature of each component, each choice of trees is one of some of them, and no two
-- have the same signatures
pub record AreCutForests (bs : List BoxFace) (F : Forest) (Gs : List Forest) : Type 0 where
  pub each : Every (IsCutForest bs F) Gs
  pub whole : (ts : List Tree) → Choice F.autos ts → (G : Forest) × IsIn G Gs × Choice G.autos ts
  pub apart : AreApart (ShareSignatures bs) Gs
