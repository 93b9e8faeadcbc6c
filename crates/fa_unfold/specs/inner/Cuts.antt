-- Lists of sound forests into which forests are cut by signatures.
use Rattle.std.specs.Prelude.{◌≡◌, ℕ, List}
use Rattle.fore_base.specs.Lists.{IsIn}
use Rattle.fa_core.specs.declared.boxes.BoxDef.{BoxDef}
use Rattle.fa_core.specs.declared.faces.Face.{Face}
use Rattle.fa_core.specs.declared.forest.Forest.{Forest}
use Rattle.fa_core.specs.declared.forest.Target.{Target}
use Rattle.fa_core.specs.Boxes.{Boxes}
use Rattle.fa_core.specs.Member.{Regroups, RegroupsInto}
use Rattle.fa_sound.specs.Soundness.{SoundForest}
use Rattle.fa_sound.specs.Unions.{forests}
use Rattle.fa_signatures.specs.CutForests.{IsCutForest}
use Rattle.fa_split.specs.Divided.{HasVarsOf}
use Rattle.fa_unfold.specs.Sites.{IsLinkAt}
use Rattle.fa_unfold.specs.Unfold.{IsHookUnfolding, IsLinkUnfolding}
use Rattle.fa_unfold.specs.Unfolded.{UnfoldsFrom}
use Rattle.fa_unfold.specs.UnfoldingOf.{IsOpenedAt}

-- s is one of the forests into which some forest of the list is cut
pub record IsCutOf (face : Face) (Gs : List Forest) (s : SoundForest) : Type 0 where
  pub whole : Forest
  pub there : IsIn whole Gs
  pub cut : IsCutForest face.boxes whole s.forest
  pub regroups : (T : List BoxDef) → Regroups T whole s.forest
  pub face_is : s.face ≡ face

-- none of the dressed forests of G is lost
abbrev pub HasCuts : Forest → List SoundForest → Type 0
HasCuts G ss = (T : List BoxDef) → RegroupsInto T G (forests ss)

-- s is one of the forests into which some forest that By says is cut, and each dressed forest of s is one of F with the
-- box edge at slot p of root i replaced
pub record IsUnfoldedAt (t : Boxes) (F : Forest) (i p : ℕ) (By : Forest → Type 0) (s : SoundForest) : Type 0 where
  pub opened : Forest
  pub by : By opened
  pub parts : IsCutForest t.face.boxes opened s.forest
  pub face_kept : s.face ≡ t.face
  pub vars_kept : HasVarsOf F s.forest
  pub from : UnfoldsFrom t.defs F i p s.forest

-- so it is of a Link of F, whose end is one leaf
abbrev pub IsUnfoldedLink : Boxes → Forest → ℕ → ℕ → SoundForest → Type 0
IsUnfoldedLink t F i p s = IsUnfoldedAt t F i p (IsLinkUnfolding t F i p) s

-- of a Hook of F
abbrev pub IsUnfoldedHook : Boxes → Forest → ℕ → ℕ → SoundForest → Type 0
IsUnfoldedHook t F i p s = IsUnfoldedAt t F i p (IsHookUnfolding t F i p) s

-- of a Link of one of these forests
abbrev pub IsUnfoldedPart : Boxes → List SoundForest → ℕ → ℕ → SoundForest → Type 0
IsUnfoldedPart t parts i p s = (S : SoundForest) × IsIn S parts × IsUnfoldedLink t S.forest i p s

-- of any box edge of F
abbrev pub IsUnfolded : Boxes → Forest → ℕ → ℕ → SoundForest → Type 0
IsUnfolded t F i p s = IsUnfoldedAt t F i p (IsOpenedAt t F i p) s

-- root i has one rule, whose slot p is a Link of box b, and one leaf stands alone at its end
abbrev pub HasLinkAt : Forest → ℕ → ℕ → ℕ → Type 0
HasLinkAt F i p b = (y : Target) × IsLinkAt F i p b y
