use Rattle.fa_text.proofs.Answered.{line_fault}
use Rattle.fa_text.proofs.reader.read_table.Goals as goal

pub returns-in-Err-clause-err : goal.returns-in-Err-clause-err
returns-in-Err-clause-err c =
    line_fault c.args.text.now c.args.shapes.now c.in-Err.fault c.line_fault.result c.in-Err.ensures.err
    c.line_fault.ensures
