-- What holds while the forests into which a forest was split go along an edge.
use Rattle.std.specs.Prelude.{◌≡◌, ◌⊎◌, List, []}
use Rattle.fore_base.specs.Lists.{Every}
use Rattle.fore_base.specs.declared.store.Store.{Store}
use Rattle.fa_core.specs.Boxes.{IsTableOf}
use Rattle.fa_core.specs.Canonical.{IsCanonical}
use Rattle.fa_core.specs.Covering.{Reduced}
use Rattle.fa_core.specs.Dressed.{Nodes}
use Rattle.fa_core.specs.Member.{OfForest, Stands}
use Rattle.fa_core.specs.declared.boxes.BoxDef.{BoxDef}
use Rattle.fa_core.specs.declared.faces.Face.{Face}
use Rattle.fa_core.specs.declared.forest.Forest.{Forest}
use Rattle.fa_sound.specs.Soundness.{SoundForest}
use Rattle.fa_split.specs.Divided.{forests}
use Rattle.fa_opening.specs.Opened.{StaysPlain}
use Rattle.c_cfg.specs.Edges.{gstep}
use Rattle.c_cfg.specs.declared.graph.Edge.{Edge}
use Rattle.sym_core.specs.Cases.{BadAt, StandsInOne, IsMet, IsTrueBad}
use Rattle.sym_core.specs.Explicit.{IsExplicit}
use Rattle.sym_core.specs.Kept.{Keeps}
use Rattle.sym_core.specs.Refined.{Refines}
use Rattle.sym_step.specs.Posts.{bads, HasAsMany}
use Rattle.sym_step.specs.declared.posts.Bad.{Bad}
use Rattle.sym_step.specs.declared.posts.Post.{Post}

-- the forest has a dressed forest, by some boxes
abbrev pub HasDressed : Forest → Type 0
HasDressed F = (T : List BoxDef) × (d : Nodes) × OfForest T F d

-- the one table of these boxes
abbrev pub IsThat : List BoxDef → List BoxDef → Type 0
IsThat defs T = T ≡ defs

-- each member of F stands in a forest of Gs, which are still to go along the edge, or is met in Ns and Bads; none is
-- invented, and no box edge is lost but those that the edge needs; by each list of boxes that meets P
pub record IsSteppingBy (P : List BoxDef → Type 0) (face : Face) (F : Forest) (e : Edge) (Gs Ns : List Forest)
    (Bads : List BadAt) : Type 0 where
  pub whole : (T : List BoxDef) → P T → (s : Store) → Stands face.shapes.structs T F s → StandsInOne face T Gs s
      ⊎ IsMet face T Ns Bads s (gstep face.shapes.structs e s)
  pub refines : (T : List BoxDef) → P T → Every (Refines face T e.instr F) Gs
  pub keeps : (T : List BoxDef) → P T → Every (Keeps face T F e) Ns
  pub bads : (T : List BoxDef) → P T → Every (IsTrueBad face T F e) Bads

-- so it is by each table over the face
abbrev pub IsStepping : Face → Forest → Edge → List Forest → List Forest → List BadAt → Type 0
IsStepping face F e Gs Ns Bads = IsSteppingBy (IsTableOf face) face F e Gs Ns Bads

-- the forest stands over the face, has as many variables as F, and no box edge where F has none
pub record IsLike (over : Face) (F : Forest) (s : SoundForest) : Type 0 where
  pub face : s.face ≡ over
  pub counts : HasAsMany F s.forest
  pub plain : StaysPlain F s.forest

-- besides, it shows what the edge needs
pub record IsReady (face : Face) (F : Forest) (e : Edge) (s : SoundForest) : Type 0 where
  pub like : IsLike face F s
  pub explicit : IsExplicit face.shapes.structs s.forest e.instr

-- besides, it is canonical and reduced
pub record IsNext (face : Face) (F : Forest) (s : SoundForest) : Type 0 where
  pub like : IsLike face F s
  pub canonical : IsCanonical s.face s.forest
  pub reduced : Reduced s.forest

-- of the forests into which F is split some are to do, and the others went along the edge into those made and into
-- faults; by each list of boxes that meets P
pub record IsSettlingBy (P : List BoxDef → Type 0) (face : Face) (F : Forest) (e : Edge) (todo made : List SoundForest)
    (faults : List Bad) : Type 0 where
  pub stepping : IsSteppingBy P face F e (forests todo) (forests made) (bads faults)
  pub next : Every (IsNext face F) made
  pub bad_like : Every (λ b. IsLike face F b.at) faults

-- the members of F are met in the result
abbrev pub SettlesBy : (List BoxDef → Type 0) → Face → Forest → Edge → Post → Type 0
SettlesBy P face F e p = IsSettlingBy P face F e [] p.next p.faults

-- so it is by each table over the face
abbrev pub IsSettling : Face → Forest → Edge → List SoundForest → List SoundForest → List Bad → Type 0
IsSettling face F e todo made faults = IsSettlingBy (IsTableOf face) face F e todo made faults

abbrev pub Settles : Face → Forest → Edge → Post → Type 0
Settles face F e p = IsSettling face F e [] p.next p.faults
