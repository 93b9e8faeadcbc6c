use Rattle.std.proofs.Common.{◌≡◌, None, IfOk, subst, sym, ap, ◌∙◌}
use Rattle.c_types.specs.Program.{is_typed}
use Rattle.c_typing.specs.Globals.{Globals, calls_of}
use Rattle.c_typing.specs.Programs.{program_in}
use Rattle.c_check.specs.inner.Heavy.{or_fault}
use Rattle.c_check.proofs.Answering.{heavy_in, memory_passed, typed_unit, ok_unit, err_unit}
use Rattle.c_check.proofs.units.answer_by.Goals as goal

pub returns-in_err-all_places-clause-err : goal.returns-in_err-all_places-clause-err
returns-in_err-all_places-clause-err c =
    memory_passed c.args.unit.now c.from_residual.result c.from_residual.ensures.1

pub weighed-requires : goal.weighed-requires
weighed-requires c =
    let tables = c.requires in
    ap (λ (g : Globals). g.calls) tables ∙ ap calls_of (sym c.as_slice-items.ensures)

pub returns-in_err-found-clause-err : goal.returns-in_err-found-clause-err
returns-in_err-found-clause-err c =
    memory_passed c.args.unit.now c.from_residual-in_err-found.result c.from_residual-in_err-found.ensures.1

pub outcome-requires : goal.outcome-requires
outcome-requires c =
    let g = c.args.tables.now in
    let tables = c.requires in
    λ none. ap (λ is. is_typed (program_in g is)) c.as_slice-items.ensures
    ∙ typed_unit c.args.unit.now g tables _ _ c.in_ok-all_places.ensures
    (c.in_ok-found.ensures
    ∙ ap (λ is. or_fault c.all_places.new.found (heavy_in is))
    c.as_slice-items.ensures)
    none

pub returns-clause-ok : goal.returns-clause-ok
returns-clause-ok c =
    let g = c.args.tables.now in
    let w = c.in_ok-found.found in
    let tables = c.requires in
    ok_unit c.args.unit.now g tables _ w c.in_ok-all_places.ensures
    (c.in_ok-found.ensures
    ∙ ap (λ is. or_fault c.all_places.new.found (heavy_in is))
    c.as_slice-items.ensures)
    c.outcome.result
    (subst (λ is. IfOk c.outcome.result (λ p. (w ≡ None) × (p ≡ program_in g is))) c.as_slice-items.ensures
    c.outcome.ensures.ok)

pub returns-clause-err : goal.returns-clause-err
returns-clause-err c =
    let tables = c.requires in
    err_unit c.args.unit.now c.args.tables.now tables _ c.in_ok-found.found c.in_ok-all_places.ensures
    (c.in_ok-found.ensures
    ∙ ap (λ is. or_fault c.all_places.new.found (heavy_in is))
    c.as_slice-items.ensures)
    c.outcome.result c.outcome.ensures.err
