use Rattle.std.proofs.Common.{◌<◌, List, length, sym, ap, ◌∙◌, arith}
use Rattle.std.specs.Prelude.{slice_set}
use Rattle.std.proofs.lemmas.List.Edits.{map_over_more}
use Rattle.std.proofs.lemmas.Option.{get_or_from_slice_get}
use Rattle.fore_base.specs.declared.store.Value.{Value}
use Rattle.fore_base.specs.Stores.{dangle_in}
use Rattle.c_heap.proofs.cells.dangle_cells.Goals as goal

pub loop-i-preserved : goal.loop-i-preserved
loop-i-preserved c =
    let cell = c.at_mut-cell.result.now in
    let within : c.loop-i.i < length c.args.cells.now = omega arith in
    ap (λ (fields : List Value). slice_set c.loop-i.cells c.loop-i.i (record cell { fields = fields }))
    c.dangle_all.ensures
    ∙ map_over_more (dangle_in c.args.number) c.args.cells.now c.loop-i.cells c.loop-i.i cell within c.loop-i.invariant
    (sym (get_or_from_slice_get c.loop-i.cells c.loop-i.i cell cell c.at_mut-cell.ensures.value))
