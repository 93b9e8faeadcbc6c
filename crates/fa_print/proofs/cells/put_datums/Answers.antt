use Rattle.std.proofs.Common.{◌≡◌, [], drop, ap, map, true}
use Rattle.std.proofs.lemmas.List.{drop_all}
use Rattle.fa_lines.specs.Spelling.{datum_pieces}
use Rattle.fa_print.specs.Lines.{named_data}
use Rattle.fa_named.specs.Structs.{field_names}
use Rattle.fa_print.proofs.ItemLemmas.{items_end}
use Rattle.fa_print.proofs.cells.put_datums.Goals as goal

pub returns : goal.returns
returns c =
    let none : drop c.loop-i.i c.args.datums.now ≡ [] = drop_all c.loop-i.i c.args.datums.now c.loop-i-test.false in
    items_end c.loop-i.text c.args.text.now
    (map datum_pieces (named_data (field_names true c.args.fields.now) 0 c.args.datums.now)) _ c.loop-i.i
    (ap (λ ds. map datum_pieces (named_data (field_names true c.args.fields.now) c.loop-i.i ds)) none)
    c.loop-i.invariant
