use Rattle.fa_sound.specs.Unions.{forests}
use Rattle.fa_unfold.proofs.UnfoldedEdges.{members_of, unfolded_each, unfolded_face, unfolded_named, unfolded_vars}
use Rattle.fa_unfold.proofs.whole.unfold.Goals as goal

pub returns-clause-unfolded : goal.returns-clause-unfolded
returns-clause-unfolded c =
    unfolded_named c.args.table.now c.args.forest.now.forest c.args.root c.args.slot c.in_ok-made.made
    c.in_ok-made.ensures.each

pub returns-clause-face : goal.returns-clause-face
returns-clause-face c =
    unfolded_face c.args.table.now c.args.forest.now.forest c.args.root c.args.slot c.in_ok-made.made
    c.in_ok-made.ensures.each c.args.forest.now c.requires.face

pub returns-clause-vars : goal.returns-clause-vars
returns-clause-vars c =
    unfolded_vars c.args.table.now c.args.forest.now.forest c.args.root c.args.slot c.in_ok-made.made
    c.in_ok-made.ensures.each

pub returns-clause-each : goal.returns-clause-each
returns-clause-each c =
    unfolded_each c.args.table.now c.args.forest.now.forest c.args.root c.args.slot c.in_ok-made.made
    c.in_ok-made.ensures.each

pub returns-clause-members : goal.returns-clause-members
returns-clause-members c =
    members_of c.args.table.now.defs c.args.forest.now.forest c.args.root c.args.slot (forests c.in_ok-made.made)
    (unfolded_each c.args.table.now c.args.forest.now.forest c.args.root c.args.slot c.in_ok-made.made
    c.in_ok-made.ensures.each) c.in_ok-made.ensures.whole
