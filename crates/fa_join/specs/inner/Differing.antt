-- Where two forests that can be joined differ.
use Rattle.std.specs.Prelude.{◌≡◌, ◌<◌, ℕ, List, length, Some, slice_get}
use Rattle.fore_base.specs.Lists.{Paired, PairedBut}
use Rattle.ta_core.specs.Auto.{Automaton}
use Rattle.ta_core.specs.Language.{HasSameLanguage}
use Rattle.fa_core.specs.declared.faces.BoxFace.{BoxFace}
use Rattle.fa_core.specs.declared.forest.Forest.{Forest}
use Rattle.fa_sound.specs.Soundness.{SoundForest}
use Rattle.fa_sound.specs.Components.{component_at}
use Rattle.fa_split.specs.Split.{CanSplit, top_rule, child_state}
use Rattle.fa_join.specs.Joinable.{SameRuns, SameSignatures, Joinable}
use Rattle.fa_join.specs.declared.comparing.Apart.{Apart}
use Rattle.fa_join.specs.declared.comparing.Apart.TheVariants.{At, More, Nowhere as NoPlace}
use Rattle.fa_join.specs.declared.differing.Difference.{Difference}
use Rattle.fa_join.specs.declared.differing.Difference.TheVariants.{Nowhere, Child}
use Rattle.fa_join.specs.declared.lists.Partner.{Partner}

-- the rules at the top have one symbol
abbrev pub SameTops : Automaton → Automaton → Type 0
SameTops a b = (top_rule a).symbol ≡ (top_rule b).symbol

-- the forests have the same targets and data and as many roots, with the same symbols at the top
pub record LookAlike (F G : Forest) : Type 0 where
  pub vars : F.vars ≡ G.vars
  pub data_vars : F.data_vars ≡ G.data_vars
  pub tops : Paired SameTops F.autos G.autos

-- the rules at the top differ in the child at place p alone, where the signatures are equal
pub record DifferAtChild (bs : List BoxFace) (a b : Automaton) (p : ℕ) : Type 0 where
  pub place : p < length (top_rule a).children
  pub symbols : SameTops a b
  pub children : PairedBut (SameRuns a b) p (child_state a p) (child_state b p) (top_rule a).children
      (top_rule b).children
  pub marks : SameSignatures bs a b (child_state a p) (child_state b p)

-- the forests have the same languages, but for root r, where they differ in the child at place p
pub record DifferAtRoot (bs : List BoxFace) (F G : Forest) (r p : ℕ) : Type 0 where
  pub root : r < length F.autos
  pub others : PairedBut HasSameLanguage r (component_at F.autos r) (component_at G.autos r) F.autos G.autos
  pub below : DifferAtChild bs (component_at F.autos r) (component_at G.autos r) p

-- the forests have the same languages, or differ in this child of this root
abbrev pub IsDifference : List BoxFace → Forest → Forest → Difference → Type 0
IsDifference bs F G Nowhere = Paired HasSameLanguage F.autos G.autos
IsDifference bs F G (Child r p) = DifferAtRoot bs F G r p

-- the forests can be joined, and this is where they differ
abbrev pub CanJoin : List BoxFace → Forest → Forest → Difference → Type 0
CanJoin bs F G d = Joinable bs F G × IsDifference bs F G d

-- the trees of the children at place p below root r have one signature in both forests
abbrev pub AreMarkedAlike : List BoxFace → Forest → Forest → ℕ → ℕ → Type 0
AreMarkedAlike bs F G r p = SameSignatures bs (component_at F.autos r) (component_at G.autos r)
    (child_state (component_at F.autos r) p) (child_state (component_at G.autos r) p)

-- what the places tell at which the children below root r have other trees, the only root where the forests differ:
-- there are some; at one, the forests can be joined exactly where the signatures are equal; at more, they cannot
abbrev pub IsBelow : List BoxFace → Forest → Forest → ℕ → Apart → Type 0
IsBelow bs F G r NoPlace = ⊥
IsBelow bs F G r (At p) =
    CanSplit F r p × CanSplit G r p × (AreMarkedAlike bs F G r p → CanJoin bs F G (Child r p))
    × ((AreMarkedAlike bs F G r p → ⊥) → Joinable bs F G → ⊥)
IsBelow bs F G r More = Joinable bs F G → ⊥

-- the forest at this place of the list can be joined with G
abbrev pub IsPartner : List BoxFace → List SoundForest → Forest → Partner → Type 0
IsPartner bs Fs G found = (F : SoundForest) × (slice_get Fs found.place ≡ Some F)
    × CanJoin bs F.forest G found.differing
