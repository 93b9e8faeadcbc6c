use Rattle.fa_merge.proofs.MergedCut.{equal_trees}
use Rattle.fa_merge.proofs.grafting.boxed_sound.Goals as goal

pub returns-in-Some-clause-trees : goal.returns-in-Some-clause-trees
returns-in-Some-clause-trees c =
    let h = rw c.in-Some.is at c.in_ok-sound.ensures in
    equal_trees c.args.made.now c.in-Some.sound.forest h.1
