use Rattle.std.proofs.Common.{[], ◌∷◌}
use Rattle.std.proofs.lemmas.Result.{IfOk-weaker}
use Rattle.fore_base.specs.Lists.{Every}
use Rattle.ta_core.specs.Auto.{IsRanked}
use Rattle.fa_sound.specs.Soundness.{SoundForest}
use Rattle.fa_canon.specs.inner.Finished.{IsFinished}
use Rattle.fa_canon.specs.inner.Steps.{IsSplitEach}
use Rattle.fa_canon.proofs.Finishing.{piece_of, reached_on, regrouped_step}
use Rattle.fa_canon.proofs.Splits.{gives_on, split_twice}
use Rattle.fa_canon.proofs.making.canonical_forests.Goals as goal

pub made_canonical-requires-clause-giving : goal.made_canonical-requires-clause-giving
made_canonical-requires-clause-giving g c κs within =
    gives_on c.args.forest.now c.in_ok-merged.merged
    (piece_of c.args.forest.now c.in_ok-merged.merged c.in_ok-merged.ensures.regrouped) c.requires.giving

pub made_canonical-requires-clause-reached : goal.made_canonical-requires-clause-reached
made_canonical-requires-clause-reached g c κs within =
    let F = c.args.forest.now in
    let M = c.in_ok-merged.merged in
    let ranked : Every IsRanked M.forest.autos = c.known-2.ensures.ranked in
    reached_on F M c.known.ensures.sound c.known-2.ensures.sound ranked c.requires.giving
    (piece_of F M c.in_ok-merged.ensures.regrouped) c.requires.reached

abbrev Any : SoundForest → SoundForest → Type 0
Any F G = Unit {0}

pub returns-clause-split : goal.returns-clause-split
returns-clause-split g c =
    let F = c.args.forest.now in
    let M = c.in_ok-merged.merged in
    IfOk-weaker c.made_canonical.result (λ made. IsSplitEach IsFinished (M ∷ []) made)
    (λ made. IsSplitEach IsFinished (F ∷ []) made)
    (λ made h. split_twice Any IsFinished IsFinished (F ∷ []) (M ∷ []) made (λ x G H i p a q b. b)
    (regrouped_step Any F M c.in_ok-merged.ensures.regrouped tt) h)
    c.made_canonical.ensures
