-- Lists of forests in which each forest is taken apart into several.
use Rattle.std.specs.Prelude.{◌≡◌, ℕ, ◌<◌, ◌≢◌, List, map, length}
use Rattle.fore_base.specs.Lists.{IsIn, Every}
use Rattle.ta_core.specs.Single.{HasOneTop}
use Rattle.fa_core.specs.declared.boxes.BoxDef.{BoxDef}
use Rattle.fa_core.specs.declared.forest.Forest.{Forest}
use Rattle.fa_core.specs.Boxless.{HasNoBoxes}
use Rattle.fa_core.specs.Covering.{Covers}
use Rattle.fa_core.specs.Member.{Regroups, RegroupsInto}
use Rattle.fa_sound.specs.Soundness.{SoundForest}
use Rattle.fa_sound.specs.Components.{component_at}

-- F regroups G, which has the face, the number of pointer variables and the data of F, and no box edges where F has
-- none
pub record IsPiece (F G : SoundForest) : Type 0 where
  pub plain : Every HasNoBoxes F.forest.autos → Every HasNoBoxes G.forest.autos
  pub face : G.face ≡ F.face
  pub vars : length G.forest.vars ≡ length F.forest.vars
  pub data_vars : G.forest.data_vars ≡ F.forest.data_vars
  pub regroups : (T : List BoxDef) → Regroups T F.forest G.forest

-- each forest of Gs is a piece of one of Fs that is related to it, and each forest of Fs is regrouped into those of Gs
pub record IsSplitEach (R : SoundForest → SoundForest → Type 0) (Fs Gs : List SoundForest) : Type 0 where
  pub each : (G : SoundForest) → IsIn G Gs → (F : SoundForest) × IsIn F Fs × IsPiece F G × R F G
  pub whole : (F : SoundForest) → IsIn F Fs → (T : List BoxDef) → RegroupsInto T F.forest (map (λ s. s.forest) Gs)

-- each root below n has one root state with one rule
abbrev pub HaveTops : ℕ → Forest → Type 0
HaveTops n F = (k : ℕ) → k < n → HasOneTop (component_at F.autos k)

-- G has fewer trees at root r, where it has one root state with one rule; its other components are those of F
pub record IsChosenAt (r : ℕ) (F G : Forest) : Type 0 where
  pub covers : Covers F G
  pub top : HasOneTop (component_at G.autos r)
  pub others : (k : ℕ) → k ≢ r → component_at G.autos k ≡ component_at F.autos k

-- F covers G, whose first n roots have one root state with one rule each
abbrev pub HasChosen : ℕ → SoundForest → SoundForest → Type 0
HasChosen n F G = Covers F.forest G.forest × HaveTops n G.forest
