use Rattle.std.proofs.Common.{subst}
use Rattle.fore_read.specs.Bytes.{IsProgramFault}
use Rattle.fore_generated.proofs.GeneratedLemmas.{not_taken}
use Rattle.fore_generated.proofs.generated.of_text.Goals as goal

pub returns-in-Err-clause-err : goal.returns-in-Err-clause-err
returns-in-Err-clause-err c =
    not_taken c.args.kind c.args.phases c.in-Err.fault
    (subst (λ bytes. IsProgramFault bytes c.in-Err.fault) c.requires c.in-Err.ensures.err)
