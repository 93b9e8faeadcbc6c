use Rattle.std.proofs.Common.{◌≡◌, [], drop, ap, false}
use Rattle.std.proofs.lemmas.List.{drop_all}
use Rattle.fa_print.specs.Texts.{field_pieces}
use Rattle.fa_named.specs.Structs.{field_names}
use Rattle.fa_print.proofs.ItemLemmas.{items_end}
use Rattle.fa_print.proofs.stores.put_fields.Goals as goal

pub returns : goal.returns
returns c =
    let none : drop c.loop-i.i c.args.values.now ≡ [] = drop_all c.loop-i.i c.args.values.now c.loop-i-test.false in
    items_end c.loop-i.text c.args.text.now (field_pieces (field_names false c.args.fields.now) 0 c.args.values.now) _
    c.loop-i.i (ap (field_pieces (field_names false c.args.fields.now) c.loop-i.i) none)
    c.loop-i.invariant
