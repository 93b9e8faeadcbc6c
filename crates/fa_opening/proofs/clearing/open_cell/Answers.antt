use Rattle.std.proofs.Common.{ℕ, List, sym, subst}
use Rattle.fore_base.specs.Lists.{Every}
use Rattle.fa_core.specs.declared.faces.BoxFace.{BoxFace}
use Rattle.fa_core.specs.declared.faces.Face.{Face}
use Rattle.fa_sound.specs.Unions.{forests}
use Rattle.fa_opening.specs.Opened.{IsAnyField, IsBared, OpensFrom, OpensInto}
use Rattle.fa_opening.specs.inner.Clearing.{AreNamed}
use Rattle.fa_opening.proofs.ClearedCells.{cleared_bared, cleared_face, cleared_fields, cleared_first, cleared_from}
use Rattle.fa_opening.proofs.ClearedCells.{cleared_plain, cleared_vars}
use Rattle.fa_opening.proofs.OpenedForests.{into_regrouped, members_opened}
use Rattle.fa_opening.proofs.Steps.{root_there}
use Rattle.fa_opening.proofs.clearing.open_cell.Goals as goal

pub choose_rule-requires : goal.choose_rule-requires
choose_rule-requires c = root_there c.args.forest.now c.args.root c.known.ensures c.requires.target

pub open_fields-requires-clause-each : goal.open_fields-requires-clause-each
open_fields-requires-clause-each c =
    let t = c.args.table.now in
    let s = c.args.forest.now in
    let m = c.in_ok-chosen.ensures in
    cleared_first t c.args.root s c.requires.face c.in_ok-chosen.chosen
    (rw c.as_slice-2.ensures at c.known_each.ensures) m.face m.vars m.plain m.tops (m.regroups t.defs)

pub open_fields-requires-clause-whole : goal.open_fields-requires-clause-whole
open_fields-requires-clause-whole c =
    let t = c.args.table.now in
    into_regrouped t.face.boxes c.args.root IsAnyField t.defs c.args.forest.now.forest (forests c.in_ok-chosen.chosen)
    (c.in_ok-chosen.ensures.whole t.defs)

pub returns-clause-bared : goal.returns-clause-bared
returns-clause-bared c =
    let t = c.args.table.now in
    let s = c.args.forest.now in
    let named : AreNamed t.face.boxes c.in_ok-fields.fields =
    subst (λ (x : Face). AreNamed x.boxes c.in_ok-fields.fields) (sym c.requires.face)
    (rw (c.as_slice.ensures, c.face.ensures) at c.in_ok-fields.ensures) in
    λ f.
    subst (λ (x : Face). Every (IsBared x.boxes c.args.root f) (forests c.in_ok-made.made)) c.requires.face
    (cleared_bared t c.known-2.ensures c.ranked_insides.ensures c.args.root s.forest c.requires.target
    c.in_ok-fields.fields named c.in_ok-made.made (rw c.as_slice-3.ensures at c.in_ok-made.ensures.each) f)

pub returns-clause-fields : goal.returns-clause-fields
returns-clause-fields c =
    let t = c.args.table.now in
    let s = c.args.forest.now in
    let named : AreNamed t.face.boxes c.in_ok-fields.fields =
    subst (λ (x : Face). AreNamed x.boxes c.in_ok-fields.fields) (sym c.requires.face)
    (rw (c.as_slice.ensures, c.face.ensures) at c.in_ok-fields.ensures) in
    cleared_fields t c.known-2.ensures c.ranked_insides.ensures c.args.root s.forest c.requires.target
    c.in_ok-fields.fields named c.in_ok-made.made (rw c.as_slice-3.ensures at c.in_ok-made.ensures.each)

pub returns-clause-face : goal.returns-clause-face
returns-clause-face c =
    let t = c.args.table.now in
    let s = c.args.forest.now in
    cleared_face t c.known-2.ensures c.ranked_insides.ensures c.args.root s.forest c.requires.target
    c.in_ok-fields.fields c.in_ok-made.made (rw c.as_slice-3.ensures at c.in_ok-made.ensures.each) s c.requires.face

pub returns-clause-vars : goal.returns-clause-vars
returns-clause-vars c =
    let t = c.args.table.now in
    let s = c.args.forest.now in
    cleared_vars t c.known-2.ensures c.ranked_insides.ensures c.args.root s.forest c.requires.target
    c.in_ok-fields.fields c.in_ok-made.made (rw c.as_slice-3.ensures at c.in_ok-made.ensures.each)

pub returns-clause-stays : goal.returns-clause-stays
returns-clause-stays c =
    let t = c.args.table.now in
    let s = c.args.forest.now in
    cleared_plain t c.known-2.ensures c.ranked_insides.ensures c.args.root s.forest c.requires.target
    c.in_ok-fields.fields c.in_ok-made.made (rw c.as_slice-3.ensures at c.in_ok-made.ensures.each)

pub returns-clause-each : goal.returns-clause-each
returns-clause-each c =
    let t = c.args.table.now in
    let s = c.args.forest.now in
    subst
    (λ (x : Face). Every (OpensFrom x.boxes t.defs c.args.root IsAnyField s.forest) (forests c.in_ok-made.made))
    c.requires.face
    (cleared_from t c.known-2.ensures c.ranked_insides.ensures c.args.root s.forest c.requires.target
    c.in_ok-fields.fields c.in_ok-made.made (rw c.as_slice-3.ensures at c.in_ok-made.ensures.each))

pub returns-clause-whole : goal.returns-clause-whole
returns-clause-whole c =
    let t = c.args.table.now in
    subst
    (λ (x : Face). OpensInto x.boxes t.defs c.args.root IsAnyField c.args.forest.now.forest
    (forests c.in_ok-made.made)) c.requires.face c.in_ok-made.ensures.whole

pub returns-clause-members : goal.returns-clause-members
returns-clause-members c =
    members_opened c.args.forest.now.face.boxes c.args.root IsAnyField c.args.table.now.defs c.args.forest.now.forest
    (forests c.in_ok-made.made) (returns-clause-each c) (returns-clause-whole c)
