use Rattle.fa_text.proofs.Answered.{name_fault}
use Rattle.fa_text.proofs.reader.written_table.Goals as goal

pub returns-in-Err-clause-err : goal.returns-in-Err-clause-err
returns-in-Err-clause-err c =
    name_fault c.args.text.now c.args.shapes.now c.args.drafts.now c.in-Err.fault c.named_fault.result
    c.requires.written c.in-Err.ensures.err c.named_fault.ensures
