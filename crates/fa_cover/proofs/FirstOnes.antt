-- The least index of a node that covers a forest.
use Rattle.std.proofs.Common.{ℕ, List, Option, Some, None, Result, Ok, Err, IfOk}
use Rattle.fa_core.specs.Covering.{Covers}
use Rattle.fa_core.specs.declared.forest.Forest.{Forest}
use Rattle.fa_cover.specs.Firsts.{FirstCover}
use Rattle.fa_sound.specs.Soundness.{SoundForest}
use Rattle.par_kit.specs.Phases.{IsFirst}

pub if_first : {E : Type 0} (nodes : List SoundForest) (G : Forest) (r : Result (Option ℕ) E)
    → IfOk r (IsFirst (λ (node : SoundForest). Covers node.forest G) nodes) → IfOk r (FirstCover nodes G)
if_first nodes G (Ok (Some i)) h = h
if_first nodes G (Ok None) h = h
if_first nodes G (Err e) h = tt
