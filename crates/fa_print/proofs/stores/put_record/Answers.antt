use Rattle.fa_lines.specs.Spelling.{data_pieces, series}
use Rattle.fa_print.specs.Lines.{named_data}
use Rattle.fa_print.specs.Names.{struct_name, pointer_names, datum_names}
use Rattle.fa_print.specs.Texts.{field_pieces}
use Rattle.fa_print.proofs.ItemLemmas.{cell_put}
use Rattle.fa_print.proofs.stores.put_record.Goals as goal

pub returns : goal.returns
returns c =
    let structs = c.args.structs.now in
    let cell = c.args.cell.now in
    cell_put c.args.text.now c.put_struct.new.text c.put.new.self c.put_struct_fields.new.text c.put-2.new.self
    (struct_name structs cell.shape) (data_pieces (named_data (datum_names structs cell.shape) 0 cell.datums))
    (series (field_pieces (pointer_names structs cell.shape) 0 cell.fields))
    (rw c.as_slice.ensures at c.in_ok-put_struct.ensures) c.in_ok-put.ensures.ok
    (rw c.as_slice-2.ensures at c.in_ok-put_struct_fields.ensures) c.in_ok-put-2.ensures.ok
