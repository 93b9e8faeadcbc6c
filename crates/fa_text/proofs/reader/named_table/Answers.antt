use Rattle.fa_text.proofs.Answered.{broken_fault}
use Rattle.fa_text.proofs.Next.{all_next, all_few, named_long}
use Rattle.fa_text.proofs.reader.named_table.Goals as goal

pub table_of-requires-clause-next : goal.table_of-requires-clause-next
table_of-requires-clause-next c =
    all_next c.args.text.now c.args.shapes.now c.args.drafts.now c.args.named.now c.requires.written c.requires.named

pub table_of-requires-clause-few : goal.table_of-requires-clause-few
table_of-requires-clause-few c =
    all_few c.args.text.now c.args.shapes.now c.args.drafts.now c.args.named.now c.requires.size c.requires.written
    c.requires.named

pub table_of-requires-clause-long : goal.table_of-requires-clause-long
table_of-requires-clause-long c = named_long c.args.shapes.now c.args.drafts.now c.args.named.now c.requires.named

pub returns-clause-err : goal.returns-clause-err
returns-clause-err c =
    broken_fault c.args.text.now c.args.shapes.now c.args.drafts.now c.args.named.now c.table_of.result
    c.requires.written c.requires.named c.table_of.ensures.err
