-- Forests of which roots are merged, and what holds of their roots where none is left to merge.
use Rattle.std.specs.Prelude.{◌≡◌, ◌≢◌, ◌<◌, ◌⊎◌, ℕ, List, length, Some, slice_get}
use Rattle.fore_base.specs.Lists.{IsIn, Every}
use Rattle.ta_core.specs.declared.tree.Tree.{Tree}
use Rattle.fa_core.specs.declared.boxes.BoxDef.{BoxDef}
use Rattle.fa_core.specs.declared.forest.Forest.{Forest}
use Rattle.fa_core.specs.declared.forest.Target.{Target}
use Rattle.fa_core.specs.declared.forest.Target.TheVariants.{At}
use Rattle.fa_core.specs.Boxless.{HasNoBoxes}
use Rattle.fa_core.specs.Canonical.{IsShared, RefersTo}
use Rattle.fa_core.specs.Filled.{Choice}
use Rattle.fa_core.specs.Member.{Regroups}
use Rattle.fa_sound.specs.Soundness.{SoundForest}
use Rattle.fa_merge.specs.Merged.{CanMerge}

-- no root can be merged
abbrev pub NoneMerges : Forest → Type 0
NoneMerges F = (r : ℕ) → CanMerge F r → ⊥

-- the root can be merged, and none with a higher number can
pub record IsLastMerge (F : Forest) (r : ℕ) : Type 0 where
  pub can : CanMerge F r
  pub last : (k : ℕ) → r < k → CanMerge F k → ⊥

-- the forests G and F group the same cells; G has the face, the number of pointer variables and the data of F, and no
-- box edges where F has none
pub record IsRegrouped (F G : SoundForest) : Type 0 where
  pub plain : Every HasNoBoxes F.forest.autos → Every HasNoBoxes G.forest.autos
  pub face : G.face ≡ F.face
  pub vars : length G.forest.vars ≡ length F.forest.vars
  pub data_vars : G.forest.data_vars ≡ F.forest.data_vars
  pub regroups : (T : List BoxDef) → Regroups T F.forest G.forest
  pub whole : (T : List BoxDef) → Regroups T G.forest F.forest

-- no variable is at the root, and no other tree refers to it
pub record IsAlone (vars : List Target) (ts : List Tree) (r : ℕ) : Type 0 where
  pub no_var : IsIn (At r) vars → ⊥
  pub none : (j : ℕ) (u : Tree) → slice_get ts j ≡ Some u → j ≢ r → RefersTo u r → ⊥

-- the root is shared, or alone
abbrev pub IsSettled : List Target → List Tree → ℕ → Type 0
IsSettled vars ts r = IsShared vars ts r ⊎ IsAlone vars ts r

-- so is each root, whichever trees are taken
abbrev pub AreSettled : Forest → Type 0
AreSettled F = (ts : List Tree) → Choice F.autos ts → (r : ℕ) → r < length ts → IsSettled F.vars ts r
