use Rattle.fa_faces.specs.Faults.{box_inside}
use Rattle.fa_faces.proofs.Firsts.{first_six}
use Rattle.fa_faces.proofs.Leading.{lists_count, lists_low, lists_some, all_reached, one_missed}
use Rattle.fa_faces.proofs.face.reached_face.Goals as goal

pub reach_all-requires-clause-count : goal.reach_all-requires-clause-count
reach_all-requires-clause-count c =
    lists_count c.args.table.now c.args.input c.args.output c.args.autos.now c.args.lists.now c.requires.ready
    c.requires.signed

pub reach_all-requires-clause-within : goal.reach_all-requires-clause-within
reach_all-requires-clause-within c =
    lists_low c.args.table.now c.args.input c.args.output c.args.autos.now c.args.lists.now c.requires.ready
    c.requires.signed

pub reach_all-requires-clause-full : goal.reach_all-requires-clause-full
reach_all-requires-clause-full c =
    lists_some c.args.table.now c.args.input c.args.output c.args.autos.now c.args.lists.now c.requires.ready
    c.requires.signed

pub returns-then-branch-clause-face : goal.returns-then-branch-clause-face
returns-then-branch-clause-face c =
    all_reached c.args.table.now c.args.input c.args.output c.args.autos.now c.args.lists.now c.requires.ready
    c.requires.signed c.known.ensures c.ranked_insides.ensures
    (c.choices_are_of_signatures.ensures.all c.args.table.now.face.boxes c.args.autos.now c.args.lists.now 0
    c.requires.signed.0) c.args.face c.requires.shown
    (c.in_ok-reach_all.ensures.yes c.if-branch.true)

pub returns-else-branch-clause-breaks : goal.returns-else-branch-clause-breaks
returns-else-branch-clause-breaks c =
    first_six c.args.table.now.face c.args.table.now.defs
    (box_inside c.args.input c.args.output c.args.autos.now) c.args.face c.requires.shown
    (one_missed c.args.table.now c.args.input c.args.output c.args.autos.now c.args.lists.now c.requires.ready
    c.requires.signed c.known.ensures c.ranked_insides.ensures
    (c.choices_are_of_signatures.ensures.all c.args.table.now.face.boxes c.args.autos.now c.args.lists.now 0
    c.requires.signed.0) c.args.face c.requires.shown
    (c.in_ok-reach_all.ensures.no c.if-branch.false))
