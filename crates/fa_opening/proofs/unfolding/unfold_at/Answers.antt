use Rattle.fa_opening.proofs.SlotEdges.{needed_can}
use Rattle.fa_opening.proofs.Steps.{lowered, lowered_whole, part_roots}
use Rattle.fa_opening.proofs.unfolding.unfold_at.Goals as goal

pub unfold-requires-clause-can : goal.unfold-requires-clause-can
unfold-requires-clause-can c =
    needed_can c.args.table.now.face.boxes c.args.root c.args._field c.args.forest.now.forest c.args.at c.args.slot
    c.requires.edge

pub on_each-requires : goal.on_each-requires
on_each-requires c =
    let m = c.in_ok-parts.ensures in
    rw c.as_slice-2.ensures
    (part_roots c.args.table.now c.args.forest.now c.requires.face c.known.ensures c.known-2.ensures
    c.ranked_insides.ensures c.args.root c.args._field c.requires.target c.args.at c.args.slot c.requires.edge
    c.in_ok-parts.parts m.face m.vars m.each (rw c.as_slice.ensures at c.known_each.ensures))

pub returns-clause-each : goal.returns-clause-each
returns-clause-each c =
    let m = c.in_ok-parts.ensures in
    lowered c.args.table.now c.args.forest.now c.requires.face c.known.ensures c.known-2.ensures
    c.ranked_insides.ensures c.args.root c.args._field c.requires.target c.args.at c.args.slot c.requires.edge
    c.in_ok-parts.parts m.face m.vars m.each c.in_ok-made.made (rw c.as_slice-2.ensures at c.in_ok-made.ensures.each)

pub returns-clause-whole : goal.returns-clause-whole
returns-clause-whole c =
    let m = c.in_ok-parts.ensures in
    lowered_whole c.args.table.now c.args.forest.now c.requires.face c.known.ensures c.known-2.ensures
    c.ranked_insides.ensures c.args.root c.args._field c.requires.target c.args.at c.args.slot c.requires.edge
    c.in_ok-parts.parts m.face m.vars m.each c.in_ok-made.made m.whole
    (rw c.as_slice-2.ensures at c.in_ok-made.ensures.whole)
