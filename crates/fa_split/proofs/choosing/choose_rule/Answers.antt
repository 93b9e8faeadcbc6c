use Rattle.fa_sound.specs.Unions.{forests}
use Rattle.fa_split.proofs.ChosenForests.{all_vars, all_plain, all_topped, all_dressed, all_regroup, all_whole}
use Rattle.fa_split.proofs.Unions.{union_of}
use Rattle.fa_split.proofs.choosing.choose_rule.Goals as goal

pub returns-clause-vars : goal.returns-clause-vars
returns-clause-vars c =
    all_vars c.args.forest.now.forest c.args.root c.known.ensures.ranked c.requires (forests c.in_ok-made.made)
    c.in_ok-made.ensures.value

pub returns-clause-plain : goal.returns-clause-plain
returns-clause-plain c = λ plain.
    all_plain c.args.forest.now.forest c.args.root c.known.ensures.ranked c.requires plain
    (forests c.in_ok-made.made) c.in_ok-made.ensures.value

pub returns-clause-tops : goal.returns-clause-tops
returns-clause-tops c =
    all_topped c.args.forest.now.forest c.args.root c.known.ensures.ranked c.requires (forests c.in_ok-made.made)
    c.in_ok-made.ensures.value

pub returns-clause-dressed : goal.returns-clause-dressed
returns-clause-dressed c = λ T.
    all_dressed c.args.forest.now.forest c.args.root c.known.ensures.ranked c.requires T (forests c.in_ok-made.made)
    c.in_ok-made.ensures.value

pub returns-clause-regroups : goal.returns-clause-regroups
returns-clause-regroups c = λ T.
    all_regroup c.args.forest.now.forest c.args.root c.known.ensures.ranked c.requires T (forests c.in_ok-made.made)
    c.in_ok-made.ensures.value

pub returns-clause-whole : goal.returns-clause-whole
returns-clause-whole c = λ T.
    all_whole c.args.forest.now.forest c.args.root c.known.ensures.ranked c.requires T (forests c.in_ok-made.made)
    c.in_ok-made.ensures.value

pub returns-clause-members : goal.returns-clause-members
returns-clause-members c =
    union_of c.args.forest.now.forest (forests c.in_ok-made.made) (returns-clause-regroups c) (returns-clause-whole c)
