use Rattle.std.proofs.Common.{◌∙◌, List, [], ap, not}
use Rattle.fore_base.specs.declared.store.Datum.{Datum}
use Rattle.fa_core.specs.declared.boxes.BoxDef.{BoxDef}
use Rattle.fa_edit.specs.Data.{AllHaveDatum, AllLackDatum}
use Rattle.sym_transfer.proofs.Stored.{datum_form, held_there}
use Rattle.sym_transfer.proofs.storing.stored_datum.Goals as goal

pub returns-clause-stored : goal.returns-clause-stored
returns-clause-stored c =
    let F = c.args.forest.now in
    let lacks = (T : List BoxDef) → AllLackDatum T F.forest c.args.root c.args.field in
    let has = λ (y : Datum). ((T : List BoxDef) → AllHaveDatum T F.forest c.args.root c.args.field y) in
    let h = held_there lacks has c.datum_of.result (c.is_none.ensures ∙ ap not c.if-is_none.false)
    c.datum_of.ensures.held in
    (λ T. (h.0, c.in_ok-made.ensures.put T h.0 (h.1 T)))

pub returns-clause-form : goal.returns-clause-form
returns-clause-form c =
    let F = c.args.forest.now in
    let lacks = (T : List BoxDef) → AllLackDatum T F.forest c.args.root c.args.field in
    let has = λ (y : Datum). ((T : List BoxDef) → AllHaveDatum T F.forest c.args.root c.args.field y) in
    let h = held_there lacks has c.datum_of.result (c.is_none.ensures ∙ ap not c.if-is_none.false)
    c.datum_of.ensures.held in
    datum_form F c.in_ok-made.made c.args.root c.args.field h.0 c.args.datum c.in_ok-made.ensures.face
    c.in_ok-made.ensures.plain (c.in_ok-made.ensures.put [] h.0 (h.1 []))
