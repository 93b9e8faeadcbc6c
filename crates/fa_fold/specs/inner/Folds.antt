-- What is known of a fold once its ports and inner roots are found.
use Rattle.std.specs.Prelude.{◌<◌, ℕ, List, length, Option}
use Rattle.fa_core.specs.Boxes.{Boxes}
use Rattle.fa_core.specs.Filled.{IsSound}
use Rattle.fa_core.specs.Folding.{FoldOf}
use Rattle.fa_core.specs.declared.boxes.BoxDef.{BoxDef}
use Rattle.fa_core.specs.declared.forest.Forest.{Forest}
use Rattle.fa_part.specs.declared.ports.Port.{Port}
use Rattle.fa_part.specs.Made.{IsMade}
use Rattle.fa_part.specs.Ports.{ports_of}
use Rattle.fa_fold.specs.TopFields.{all_top_fields}
use Rattle.fa_folding.specs.Made.{AreFoldable, folded_forest, kept_first, kept_of, new_output}
use Rattle.fa_merge.specs.Reordered.{IsOrderOf, counted, reordered}

-- the forest after the fold at these ports, with these inner roots
abbrev pub fold_of : Boxes → Forest → ℕ → ℕ → Option ℕ → List Port → List ℕ → Forest
fold_of T F n i out ps inner =
    folded_forest T.face.boxes (ports_of ps) n i (new_output inner out) (kept_of inner (counted 0 (length F.autos)))
    (reordered (kept_first F inner) F)

-- it can be made, is sound, has fewer Field slots at its tops, and is the forest after the fold of the part that is
-- made
pub record IsFoldable (T : Boxes) (F : Forest) (n i : ℕ) (out : Option ℕ) (b : BoxDef) (ps : List Port)
    (inner : List ℕ) :
    Type 0 where
  pub order : IsOrderOf F (kept_first F inner)
  pub each : AreFoldable T.face.boxes (ports_of ps) n i (new_output inner out)
      (kept_of inner (counted 0 (length F.autos))) (reordered (kept_first F inner) F).autos
  pub sound : IsSound T.face (reordered (kept_first F inner) F) → IsSound T.face (fold_of T F n i out ps inner)
  pub falls : all_top_fields (fold_of T F n i out ps inner).autos < all_top_fields F.autos
  pub fold : (g : BoxDef) → IsMade F.autos b ps inner g
      → FoldOf T.face.boxes T.defs F (fold_of T F n i out ps inner) n i out g
