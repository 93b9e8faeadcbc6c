use Rattle.std.proofs.Common.{◌≡◌, [], drop, ap, map, false}
use Rattle.std.proofs.lemmas.List.{drop_all}
use Rattle.fa_lines.specs.Spelling.{slot_pieces}
use Rattle.fa_print.specs.Lines.{named_slots}
use Rattle.fa_named.specs.Structs.{field_names}
use Rattle.fa_print.proofs.ItemLemmas.{items_end}
use Rattle.fa_print.proofs.slots.put_slots.Goals as goal

pub returns : goal.returns
returns c =
    let none : drop c.loop-i.i c.args.slots.now ≡ [] = drop_all c.loop-i.i c.args.slots.now c.loop-i-test.false in
    let table = c.args.table.now in
    let names = field_names false c.args.fields.now in
    items_end c.loop-i.text c.args.text.now
    (map slot_pieces (named_slots table names c.args.slots.now c.args.states.now))
    _ c.loop-i.i (ap (λ ss. map slot_pieces (named_slots table names ss c.loop-i.left.now)) none) c.loop-i.invariant
