use Rattle.fa_sound.specs.Unions.{forests}
use Rattle.fa_split.proofs.SplitCells.{refers_well}
use Rattle.fa_split.proofs.SplitWhole.{all_vars, all_plain, all_topped, all_dressed, all_regroup, all_whole}
use Rattle.fa_split.proofs.Unions.{union_of}
use Rattle.fa_split.proofs.splitting.split_child.Goals as goal

pub returns-clause-vars : goal.returns-clause-vars
returns-clause-vars c =
    all_vars c.args.forest.now.forest c.args.root c.args.place c.known.ensures.ranked c.requires.can
    (forests c.in_ok-made.made) c.in_ok-made.ensures.value

pub returns-clause-plain : goal.returns-clause-plain
returns-clause-plain c = λ plain.
    all_plain c.args.forest.now.forest c.args.root c.args.place c.known.ensures.ranked c.requires.can
    c.args.forest.now.face c.known.ensures.sound plain (forests c.in_ok-made.made) c.in_ok-made.ensures.value

pub returns-clause-tops : goal.returns-clause-tops
returns-clause-tops c =
    all_topped c.args.forest.now.forest c.args.root c.args.place c.known.ensures.ranked c.requires.can
    (forests c.in_ok-made.made) c.in_ok-made.ensures.value

pub returns-clause-dressed : goal.returns-clause-dressed
returns-clause-dressed c = λ T.
    all_dressed c.args.forest.now.forest c.args.root c.args.place c.known.ensures.ranked c.requires.can T
    (forests c.in_ok-made.made) c.in_ok-made.ensures.value

pub returns-clause-regroups : goal.returns-clause-regroups
returns-clause-regroups c = λ T.
    let F = c.args.forest.now.forest in
    all_regroup F c.args.root c.args.place c.known.ensures.ranked c.requires.can
    (refers_well c.args.forest.now.face F c.known.ensures.sound) T (forests c.in_ok-made.made)
    c.in_ok-made.ensures.value

pub returns-clause-whole : goal.returns-clause-whole
returns-clause-whole c = λ T.
    let F = c.args.forest.now.forest in
    all_whole F c.args.root c.args.place c.known.ensures.ranked c.requires.can
    (refers_well c.args.forest.now.face F c.known.ensures.sound) T (forests c.in_ok-made.made)
    c.in_ok-made.ensures.value

pub returns-clause-members : goal.returns-clause-members
returns-clause-members c =
    union_of c.args.forest.now.forest (forests c.in_ok-made.made) (returns-clause-regroups c) (returns-clause-whole c)
