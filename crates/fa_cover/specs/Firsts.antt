-- The first node of a list that covers a forest.
use Rattle.std.specs.Prelude.{◌≡◌, ℕ, List, Option, Some, None, slice_get, take}
use Rattle.fore_base.specs.Lists.{Every}
use Rattle.fa_core.specs.Covering.{Covers}
use Rattle.fa_core.specs.declared.forest.Forest.{Forest}
use Rattle.fa_sound.specs.Soundness.{SoundForest}

-- none of the nodes covers G
abbrev pub NoneCovers : List SoundForest → Forest → Type 0
NoneCovers nodes G = Every (λ node. Covers node.forest G → ⊥) nodes

-- the node at place i covers G, and none before it does
abbrev pub IsFirstCover : List SoundForest → Forest → ℕ → Type 0
IsFirstCover nodes G i = (node : SoundForest) × (slice_get nodes i ≡ Some node) × Covers node.forest G
    × NoneCovers (take i nodes) G

-- the answer is the least place whose node covers G, and None where no node does
abbrev pub FirstCover : List SoundForest → Forest → Option ℕ → Type 0
FirstCover nodes G None = NoneCovers nodes G
FirstCover nodes G (Some i) = IsFirstCover nodes G i
