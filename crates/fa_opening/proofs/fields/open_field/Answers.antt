use Rattle.fa_sound.specs.Unions.{forests}
use Rattle.fa_opening.specs.Opened.{IsThatField}
use Rattle.fa_opening.proofs.OpenedForests.{members_opened}
use Rattle.fa_opening.proofs.ShownFields.{shown_face, shown_from, shown_parts, shown_plain, shown_stays, shown_vars}
use Rattle.fa_opening.proofs.ShownFields.{shown_whole}
use Rattle.fa_opening.proofs.fields.open_field.Goals as goal

pub on_each-requires : goal.on_each-requires
on_each-requires c =
    let m = c.in_ok-bared.ensures in
    rw c.as_slice.ensures
    (shown_parts c.args.table.now c.args.forest.now c.requires.face c.known.ensures c.args.root c.args.field
    c.in_ok-bared.bared m.bared m.face)

pub returns-clause-plain : goal.returns-clause-plain
returns-clause-plain c =
    let m = c.in_ok-bared.ensures in
    shown_plain c.args.forest.now c.args.root c.args.field c.in_ok-bared.bared m.face c.in_ok-made.made
    (rw c.as_slice.ensures at c.in_ok-made.ensures.each)

pub returns-clause-face : goal.returns-clause-face
returns-clause-face c =
    let m = c.in_ok-bared.ensures in
    shown_face c.args.forest.now c.args.root c.args.field c.in_ok-bared.bared m.face c.in_ok-made.made
    (rw c.as_slice.ensures at c.in_ok-made.ensures.each)

pub returns-clause-vars : goal.returns-clause-vars
returns-clause-vars c =
    let m = c.in_ok-bared.ensures in
    shown_vars c.args.forest.now c.args.root c.args.field c.in_ok-bared.bared m.vars c.in_ok-made.made
    (rw c.as_slice.ensures at c.in_ok-made.ensures.each)

pub returns-clause-stays : goal.returns-clause-stays
returns-clause-stays c =
    shown_stays c.args.forest.now.forest c.args.root c.args.field c.in_ok-bared.bared c.in_ok-bared.ensures.stays
    c.in_ok-made.made (rw c.as_slice.ensures at c.in_ok-made.ensures.each)

pub returns-clause-each : goal.returns-clause-each
returns-clause-each c =
    let m = c.in_ok-bared.ensures in
    shown_from c.args.forest.now c.args.table.now.defs c.args.root c.args.field c.requires.target
    c.in_ok-bared.bared m.vars m.each c.in_ok-made.made (rw c.as_slice.ensures at c.in_ok-made.ensures.each)

pub returns-clause-whole : goal.returns-clause-whole
returns-clause-whole c =
    let m = c.in_ok-bared.ensures in
    shown_whole c.args.forest.now c.args.table.now.defs c.args.root c.args.field c.requires.target
    c.in_ok-bared.bared m.vars m.whole c.in_ok-made.made (rw c.as_slice.ensures at c.in_ok-made.ensures.whole)

pub returns-clause-members : goal.returns-clause-members
returns-clause-members c =
    members_opened c.args.forest.now.face.boxes c.args.root (IsThatField c.args.field) c.args.table.now.defs
    c.args.forest.now.forest (forests c.in_ok-made.made) (returns-clause-each c) (returns-clause-whole c)
