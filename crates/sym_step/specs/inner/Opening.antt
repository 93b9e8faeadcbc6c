-- Forests whose children at a root are fixed as leaves, place by place.
use Rattle.std.specs.Prelude.{◌≡◌, ◌≢◌, ◌<◌, ◌⊎◌, ℕ, List, [], ◌∷◌, ◌++◌, length}
use Rattle.fore_base.specs.Lists.{IsIn, Every}
use Rattle.fore_base.specs.declared.fault.Fault.TheVariants.{Leak}
use Rattle.fore_base.specs.declared.shape.Shape.{Shape}
use Rattle.ta_core.specs.Single.{HasOneTop}
use Rattle.fa_core.specs.Boxes.{IsTableOf}
use Rattle.fa_core.specs.Filled.{IsSound}
use Rattle.fa_core.specs.declared.boxes.BoxDef.{BoxDef}
use Rattle.fa_core.specs.declared.faces.Face.{Face}
use Rattle.fa_core.specs.declared.forest.Forest.{Forest}
use Rattle.fa_core.specs.declared.forest.Target.{Target}
use Rattle.fa_core.specs.declared.forest.Target.TheVariants.{At}
use Rattle.fa_sound.specs.Components.{component_at}
use Rattle.fa_sound.specs.Soundness.{SoundForest}
use Rattle.fa_split.specs.Divided.{forests, HasVarsOf}
use Rattle.fa_split.specs.Split.{top_rule}
use Rattle.c_cfg.specs.declared.graph.Edge.{Edge}
use Rattle.c_cfg.specs.declared.graph.Instr.TheVariants.{Free}
use Rattle.fa_edit.specs.Plain.{IsLeafPlace, IsPlainAt}
use Rattle.fa_opening.specs.Opened.{HasFieldsAlone, IsBared, StaysPlain}
use Rattle.sym_core.specs.Explicit.{target_at}
use Rattle.sym_core.specs.Kept.{Needs}
use Rattle.sym_step.specs.Freed.{NeverLeadsBack}
use Rattle.sym_step.specs.Posts.{bads}
use Rattle.sym_step.specs.declared.opening.Opened.{Opened}
use Rattle.sym_step.specs.declared.posts.Bad.{Bad}
use Rattle.sym_step.specs.inner.Stepping.{IsSteppingBy, IsLike}

-- the edge frees the cell at root r
abbrev pub IsFreeAt : Forest → Edge → ℕ → Type 0
IsFreeAt F e r = (b : ℕ) × (e.instr ≡ Free b) × (target_at F b ≡ At r)

-- how many children the one rule at the top of root r has
abbrev pub width : Forest → ℕ → ℕ
width F r = length (top_rule (component_at F.autos r)).children

-- s is F with no box edge for a field of root r, each slot of whose one rule is a field, and with none where F has none
pub record IsCellOf (F : SoundForest) (r : ℕ) (s : SoundForest) : Type 0 where
  pub face_kept : s.face ≡ F.face
  pub vars_kept : HasVarsOf F.forest s.forest
  pub plain_kept : StaysPlain F.forest s.forest
  pub bared : (f : ℕ) → IsBared s.face.boxes r f s.forest
  pub fields : HasFieldsAlone s.forest r

-- s stands over the face of a table with these boxes, the edge frees the cell at root r, which has one rule, and each
-- slot of that is a field
pub record IsFreed (T : List BoxDef) (r : ℕ) (e : Edge) (s : SoundForest) : Type 0 where
  pub table : IsTableOf s.face T
  pub frees : IsFreeAt s.forest e r
  pub root : r < length s.forest.autos
  pub top : HasOneTop (component_at s.forest.autos r)
  pub fields : HasFieldsAlone s.forest r

-- G has the targets of F, root r has the one rule of root r of F but for its children, and one leaf stands at each
-- place of it below p
pub record IsShown (F : Forest) (r p : ℕ) (G : Forest) : Type 0 where
  pub root : r < length G.autos
  pub top : HasOneTop (component_at G.autos r)
  pub vars : G.vars ≡ F.vars
  pub symbol : (top_rule (component_at G.autos r)).symbol ≡ (top_rule (component_at F.autos r)).symbol
  pub wide : width G r ≡ width F r
  pub leaves : (k : ℕ) → k < p → (t : Target) × IsLeafPlace G r k t

-- G has the targets of F, and one leaf stands in each field of root r that the edge needs
pub record IsShowing (hs : List Shape) (F : Forest) (e : Edge) (r : ℕ) (G : Forest) : Type 0 where
  pub vars : G.vars ≡ F.vars
  pub plain : (f : ℕ) → Needs e.instr f → IsPlainAt hs G r f

-- F is split into forests that are to do, into those made, which meet P, and into those of faults; by each list of
-- boxes that meets Q
pub record IsOpeningBy (Q : List BoxDef → Type 0) (face : Face) (F : Forest) (e : Edge) (P : Forest → Type 0)
    (todo made : List SoundForest) (faults : List Bad) : Type 0 where
  pub stepping : IsSteppingBy Q face F e (forests todo ++ forests made) [] (bads faults)
  pub ready : Every P (forests made)
  pub like : Every (IsLike face F) made
  pub bad_like : Every (λ b. IsLike face F b.at) faults

-- F is split into forests that meet P, and into those of faults
abbrev pub OpensBy : (List BoxDef → Type 0) → Face → Forest → Edge → (Forest → Type 0) → Opened → Type 0
OpensBy Q face F e P o = IsOpeningBy Q face F e P [] o.ready o.faults

-- the piece with the leak
abbrev pub leak_at : SoundForest → Bad
leak_at s = record { fault = Leak; at = s }

-- a leak at one of the pieces: it has not n roots, and no way back leads to root n
pub record IsLost (n : ℕ) (pieces : List SoundForest) (b : Bad) : Type 0 where
  pub piece : IsIn b.at pieces
  pub sound : IsSound b.at.face b.at.forest
  pub many : length b.at.forest.autos ≢ n
  pub forward : NeverLeadsBack b.at.face.boxes b.at.forest n
  pub leaks : b.fault ≡ Leak

-- the piece is one of the forests, or a leak at it one of the faults
abbrev pub IsSortedTo : List SoundForest → List Bad → SoundForest → Type 0
IsSortedTo ready faults s = IsIn s ready ⊎ IsIn (leak_at s) faults

-- the pieces are sorted into forests and faults
pub record AreSorted (n : ℕ) (pieces ready : List SoundForest) (faults : List Bad) : Type 0 where
  pub ready_in : Every (λ s. IsIn s pieces) ready
  pub lost : Every (IsLost n pieces) faults
  pub all : Every (IsSortedTo ready faults) pieces
