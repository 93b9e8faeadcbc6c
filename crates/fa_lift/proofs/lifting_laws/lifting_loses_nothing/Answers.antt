use Rattle.fa_core.specs.Filled.{HasSignatures}
use Rattle.fa_merge.proofs.PlacedForests.{component_has}
use Rattle.fa_sound.specs.Components.{component_at}
use Rattle.fa_split.proofs.SplitCells.{refers_well}
use Rattle.fa_lift.proofs.LiftProvides.{all_edged}
use Rattle.fa_lift.proofs.LiftedForests.{lift_whole}
use Rattle.fa_lift.proofs.lifting_laws.lifting_loses_nothing.Goals as goal

pub returns : goal.returns
returns c = λ T face F r f t Gs ranked sound from all.
    lift_whole face.boxes F r f t ranked from.there (refers_well face F sound) T
    (all_edged face.boxes r f (component_at F.autos t)
    (component_has (HasSignatures face.boxes) F.autos t sound.well_formed.signatures from.there) from.provides) Gs all
