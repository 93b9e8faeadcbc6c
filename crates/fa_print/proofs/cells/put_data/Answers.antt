use Rattle.std.proofs.Common.{◌<◌, length, true, arith}
use Rattle.std.proofs.lemmas.Bool.Decides.{nat_tests}
use Rattle.fa_named.specs.Structs.{field_names}
use Rattle.fa_print.proofs.ItemLemmas.{data_are, three_put}
use Rattle.fa_print.proofs.cells.put_data.Goals as goal

pub returns : goal.returns
returns c =
    let some : 0 < length c.args.datums.now = grind (arith, nat_tests, c.is_empty.ensures, c.if-is_empty.false) in
    three_put _ _ _ _ _ _ _ _ c.in_ok-put.ensures.ok c.in_ok-put_datums.ensures c.in_ok-put-2.ensures.ok
    (data_are (field_names true c.args.fields.now) c.args.datums.now some)
