-- Forests whose members are together those of one forest.
use Rattle.std.specs.Prelude.{◌↔◌, List, map}
use Rattle.fore_base.specs.Lists.{IsIn}
use Rattle.fore_base.specs.declared.shape.Shape.{Shape}
use Rattle.fore_base.specs.declared.store.Store.{Store}
use Rattle.fa_core.specs.declared.boxes.BoxDef.{BoxDef}
use Rattle.fa_core.specs.declared.forest.Forest.{Forest}
use Rattle.fa_core.specs.Member.{Stands}
use Rattle.fa_sound.specs.Soundness.{SoundForest}

-- the forests, without their faces and signatures
abbrev pub forests : List SoundForest → List Forest
forests ss = map (λ s. s.forest) ss

-- F and the forests of the list together have the same members, whatever the structs and the box table are
abbrev pub IsUnionOf : Forest → List Forest → Type 0
IsUnionOf F Gs =
    (hs : List Shape) (T : List BoxDef) (s : Store) →
    Stands hs T F s ↔ ((G : Forest) × IsIn G Gs × Stands hs T G s)
