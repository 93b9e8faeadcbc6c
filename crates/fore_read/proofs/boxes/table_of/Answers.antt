use Rattle.std.proofs.Common.{subst}
use Rattle.fa_text.specs.Files.{IsFault}
use Rattle.fore_read.proofs.boxes.table_of.Goals as goal

pub returns-in-Err-Rule-clause-err : goal.returns-in-Err-Rule-clause-err
returns-in-Err-Rule-clause-err c =
    subst (IsFault c.args.text.now c.args.shapes.now) c.in-Err-Rule.field-0-is c.in-Err-Rule.ensures.err

pub returns-in-Err-Limit-clause-err : goal.returns-in-Err-Limit-clause-err
returns-in-Err-Limit-clause-err c =
    subst (IsFault c.args.text.now c.args.shapes.now) c.in-Err-Limit.field-0-is c.in-Err-Limit.ensures.err
