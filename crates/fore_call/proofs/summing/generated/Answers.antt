use Rattle.std.proofs.Common.{sym, subst}
use Rattle.fore_call.specs.inner.Judging.{IsGeneratedAnswer}
use Rattle.fore_call.proofs.JudgeLemmas.{not_generated}
use Rattle.fore_call.proofs.summing.generated.Goals as goal

pub returns-in-Err : goal.returns-in-Err
returns-in-Err g c =
    subst (IsGeneratedAnswer c.args.kind c.args.phases) (sym c.answer_to.ensures)
    (not_generated c.args.kind c.args.phases c.in-Err.fault c.in-Err.ensures.err)
