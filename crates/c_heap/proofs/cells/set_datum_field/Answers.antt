use Rattle.std.proofs.Common.{◌≡◌, Some, None, List, sym, ap, ◌∙◌}
use Rattle.std.proofs.lemmas.Option.{get_or_from_slice_get}
use Rattle.std.specs.Prelude.{slice_set, slice_index_or}
use Rattle.fore_base.specs.declared.store.CellRec.{CellRec}
use Rattle.fore_base.specs.declared.store.Datum.{Datum}
use Rattle.c_heap.proofs.CellLemmas.{placed, with_datum_at, with_datum_some, with_datum_none}
use Rattle.c_heap.proofs.cells.set_datum_field.Goals as goal

pub returns-in-Some : goal.returns-in-Some
returns-in-Some c =
    let cell = c.at_mut-cell.result.now in
    let is : slice_index_or c.args.cells.now c.in-Some.at cell ≡ cell =
    get_or_from_slice_get c.args.cells.now c.in-Some.at cell cell c.at_mut-cell.ensures.value in
    ap (λ (datums : List Datum). slice_set c.args.cells.now c.in-Some.at (record cell { datums = datums }))
    c.set_within.ensures
    ∙ ap (λ (x : CellRec). slice_set c.args.cells.now c.in-Some.at (with_datum_at x c.args.field c.args.datum)) (sym is)
    ∙ sym (with_datum_some c.args.number c.args.field c.in-Some.at c.args.datum c.args.cells.now cell
    (placed c.args.number c.args.cells.now c.position_of.result (Some c.in-Some.at)
    (rw c.as_slice.ensures at c.position_of.ensures.position) c.in-Some.is))

pub returns-in_default : goal.returns-in_default
returns-in_default c =
    sym (with_datum_none c.args.number c.args.field c.args.datum c.args.cells.now
    (placed c.args.number c.args.cells.now c.position_of.result None
    (rw c.as_slice.ensures at c.position_of.ensures.position) c.in_default.is))
