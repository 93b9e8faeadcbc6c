use Rattle.fa_unfold.proofs.FilledForests.{links_filled, hooks_filled}
use Rattle.fa_unfold.proofs.laws.unfolded_forests_are_filled.Goals as goal

pub returns-clause-links : goal.returns-clause-links
returns-clause-links c = λ t F i p b y input output inner tops over at is are.
    links_filled t F over i p b y input output inner tops at is are

pub returns-clause-hooks : goal.returns-clause-hooks
returns-clause-hooks c = λ t F i p b input inner ins over at is are.
    hooks_filled t F over i p b input inner ins at is are
