-- Forests in which one rule was chosen at roots of variables.
use Rattle.std.specs.Prelude.{◌≡◌, ◌<◌, ℕ, List, length}
use Rattle.fore_base.specs.Lists.{IsIn}
use Rattle.ta_core.specs.Single.{HasOneTop}
use Rattle.fa_core.specs.Member.{Regroups}
use Rattle.fa_core.specs.declared.boxes.BoxDef.{BoxDef}
use Rattle.fa_core.specs.declared.forest.Target.TheVariants.{At}
use Rattle.fa_sound.specs.Components.{component_at}
use Rattle.fa_sound.specs.Soundness.{SoundForest}
use Rattle.fa_split.specs.Divided.{HasVarsOf}
use Rattle.fa_opening.specs.Opened.{StaysPlain}

-- s regroups S: with as many roots and the same variables, and a root that has one rule has the same component; s has
-- no box edge where S has none
pub record IsChoosing (S s : SoundForest) : Type 0 where
  pub face_kept : s.face ≡ S.face
  pub vars_kept : HasVarsOf S.forest s.forest
  pub plain_kept : StaysPlain S.forest s.forest
  pub long : length s.forest.autos ≡ length S.forest.autos
  pub same : (k : ℕ) → HasOneTop (component_at S.forest.autos k) → component_at s.forest.autos k
      ≡ component_at S.forest.autos k
  pub regroups : (T : List BoxDef) → Regroups T S.forest s.forest

-- besides, root r has one rule, if a variable is there
pub record IsToppedAt (r : ℕ) (S s : SoundForest) : Type 0 where
  pub chosen : IsChoosing S s
  pub top : IsIn (At r) S.forest.vars → HasOneTop (component_at s.forest.autos r)

-- so has each of the first n roots
pub record IsTopped (n : ℕ) (S s : SoundForest) : Type 0 where
  pub chosen : IsChoosing S s
  pub tops : (r : ℕ) → r < n → IsIn (At r) S.forest.vars → HasOneTop (component_at s.forest.autos r)
