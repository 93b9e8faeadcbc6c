use Rattle.std.proofs.Common.{◌≡◌, Some, None, List, sym, ap, ◌∙◌}
use Rattle.std.proofs.lemmas.Option.{get_or_from_slice_get}
use Rattle.std.specs.Prelude.{slice_set, slice_index_or}
use Rattle.fore_base.specs.declared.store.CellRec.{CellRec}
use Rattle.fore_base.specs.declared.store.Value.{Value}
use Rattle.c_heap.proofs.CellLemmas.{placed, with_at, with_some, with_none}
use Rattle.c_heap.proofs.cells.set_field.Goals as goal

pub returns-in-Some : goal.returns-in-Some
returns-in-Some c =
    let cell = c.at_mut-cell.result.now in
    let is : slice_index_or c.args.cells.now c.in-Some.at cell ≡ cell =
    get_or_from_slice_get c.args.cells.now c.in-Some.at cell cell c.at_mut-cell.ensures.value in
    ap (λ (fields : List Value). slice_set c.args.cells.now c.in-Some.at (record cell { fields = fields }))
    c.set_within.ensures
    ∙ ap (λ (x : CellRec). slice_set c.args.cells.now c.in-Some.at (with_at x c.args.field c.args.value)) (sym is)
    ∙ sym (with_some c.args.number c.args.field c.in-Some.at c.args.value c.args.cells.now cell
    (placed c.args.number c.args.cells.now c.position_of.result (Some c.in-Some.at)
    (rw c.as_slice.ensures at c.position_of.ensures.position) c.in-Some.is))

pub returns-in_default : goal.returns-in_default
returns-in_default c =
    sym (with_none c.args.number c.args.field c.args.value c.args.cells.now
    (placed c.args.number c.args.cells.now c.position_of.result None
    (rw c.as_slice.ensures at c.position_of.ensures.position) c.in_default.is))
