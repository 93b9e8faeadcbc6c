use Rattle.std.proofs.Common.{subst}
use Rattle.c_front.specs.Files.{IsFault}
use Rattle.fore_read.proofs.program.program_of.Goals as goal

pub returns-in-Err-Breaks-clause-err : goal.returns-in-Err-Breaks-clause-err
returns-in-Err-Breaks-clause-err c =
    subst (IsFault c.args.bytes.now) c.in-Err-Breaks.field-0-is c.in-Err-Breaks.ensures.err
