use Rattle.std.proofs.lemmas.Result.{IfOk-weaker}
use Rattle.fa_back.proofs.Tabled.{table_long, rows_below, marks_signed}
use Rattle.fa_back.proofs.closure.reached.Goals as goal

pub search-requires-clause-from : goal.search-requires-clause-from
search-requires-clause-from c =
    rw (c.in_ok-table.ensures, table_long c.args.signatures.now c.requires.within) c.requires.from

pub search-requires-clause-rows : goal.search-requires-clause-rows
search-requires-clause-rows c =
    rw (c.in_ok-table.ensures) (rows_below c.args.signatures.now c.requires.within)

pub returns : goal.returns
returns c =
    let h = rw (c.in_ok-table.ensures) at c.search.ensures in
    IfOk-weaker c.search.result _ _
    (λ marks m. marks_signed c.args.signatures.now c.requires.within c.args.from.now marks m) h
