use Rattle.std.proofs.Common.{Some}
use Rattle.fa_faces.proofs.Leading.{lists_count, lists_low, lists_some, shown_always, shown_never, shown_apart}
use Rattle.fa_faces.proofs.shown.led_shown.Goals as goal

pub lead-requires-clause-count : goal.lead-requires-clause-count
lead-requires-clause-count c =
    lists_count c.args.table.now c.args.input (Some c.args.shape) c.args.autos.now c.args.lists.now c.requires.ready
    c.requires.signed

pub lead-requires-clause-within : goal.lead-requires-clause-within
lead-requires-clause-within c =
    lists_low c.args.table.now c.args.input (Some c.args.shape) c.args.autos.now c.args.lists.now c.requires.ready
    c.requires.signed

pub lead-requires-clause-full : goal.lead-requires-clause-full
lead-requires-clause-full c =
    lists_some c.args.table.now c.args.input (Some c.args.shape) c.args.autos.now c.args.lists.now c.requires.ready
    c.requires.signed

pub returns-in-Always : goal.returns-in-Always
returns-in-Always c =
    let w = rw c.in-Always.is at c.in_ok-lead.ensures in
    rw c.face_of.ensures
    (shown_always c.args.table.now c.args.input c.args.shape c.args.autos.now c.args.lists.now c.requires.ready
    c.requires.signed c.requires.right c.requires.tops c.args.gives_in c.args.gives_out c.requires.input
    c.requires.output c.known.ensures c.ranked_insides.ensures
    (c.choices_are_of_signatures.ensures.always c.args.table.now.face.boxes c.args.autos.now c.args.lists.now 1 0
    c.requires.signed.0)
    (c.choices_are_of_signatures.ensures.never c.args.table.now.face.boxes c.args.autos.now c.args.lists.now 1 0
    c.requires.signed.0) w)

pub returns-in-Never : goal.returns-in-Never
returns-in-Never c =
    let w = rw c.in-Never.is at c.in_ok-lead.ensures in
    rw c.face_of-in-Never.ensures
    (shown_never c.args.table.now c.args.input c.args.shape c.args.autos.now c.args.lists.now c.requires.ready
    c.requires.signed c.requires.right c.requires.tops c.args.gives_in c.args.gives_out c.requires.input
    c.requires.output c.known.ensures c.ranked_insides.ensures
    (c.choices_are_of_signatures.ensures.always c.args.table.now.face.boxes c.args.autos.now c.args.lists.now 1 0
    c.requires.signed.0)
    (c.choices_are_of_signatures.ensures.never c.args.table.now.face.boxes c.args.autos.now c.args.lists.now 1 0
    c.requires.signed.0) w)

pub returns-in-Sometimes : goal.returns-in-Sometimes
returns-in-Sometimes c =
    let w = rw c.in-Sometimes.is at c.in_ok-lead.ensures in
    shown_apart c.args.table.now c.args.input c.args.shape c.args.autos.now c.args.lists.now c.requires.ready
    c.requires.signed c.requires.right c.requires.tops c.args.gives_in c.args.gives_out c.requires.input
    c.requires.output c.known.ensures c.ranked_insides.ensures
    (c.choices_are_of_signatures.ensures.always c.args.table.now.face.boxes c.args.autos.now c.args.lists.now 1 0
    c.requires.signed.0)
    (c.choices_are_of_signatures.ensures.never c.args.table.now.face.boxes c.args.autos.now c.args.lists.now 1 0
    c.requires.signed.0) w.0 w.1
