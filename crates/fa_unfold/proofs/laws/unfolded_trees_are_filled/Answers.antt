use Rattle.fa_unfold.proofs.FilledUnfoldings.{link_trees_filled, hook_trees_filled}
use Rattle.fa_unfold.proofs.laws.unfolded_trees_are_filled.Goals as goal

pub returns-clause-links : goal.returns-clause-links
returns-clause-links c = λ t F i p b y input output inner tops over at is are G k e h a.
    link_trees_filled t F over i p b y input output inner tops at is are G k e h a

pub returns-clause-hooks : goal.returns-clause-hooks
returns-clause-hooks c = λ t F i p b input inner ins over at is are G k e h a.
    hook_trees_filled t F over i p b input inner ins at is are G k e h a
