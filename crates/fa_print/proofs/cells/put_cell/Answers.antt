use Rattle.std.proofs.Common.{map}
use Rattle.fa_lines.specs.Spelling.{data_pieces, series, slot_pieces}
use Rattle.fa_print.specs.Lines.{named_data, named_slots}
use Rattle.fa_print.specs.Names.{struct_name, pointer_names, datum_names}
use Rattle.fa_print.proofs.ItemLemmas.{cell_put}
use Rattle.fa_print.proofs.cells.put_cell.Goals as goal

pub returns : goal.returns
returns c =
    let table = c.args.table.now in
    let structs = table.face.shapes.structs in
    let shape = c.args.shape in
    cell_put c.args.text.now c.put_cell_struct.new.text c.put.new.self c.put_cell_slots.new.text c.put-2.new.self
    (struct_name structs shape) (data_pieces (named_data (datum_names structs shape) 0 c.args.datums.now))
    (series (map slot_pieces (named_slots table (pointer_names structs shape) c.args.slots.now c.args.states.now)))
    c.in_ok-put_cell_struct.ensures c.in_ok-put.ensures.ok c.in_ok-put_cell_slots.ensures c.in_ok-put-2.ensures.ok
