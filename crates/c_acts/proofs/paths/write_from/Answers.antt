use Rattle.std.proofs.Common.{drop, sym, ◌∙◌}
use Rattle.std.proofs.lemmas.Result.{err_from_is_err_and}
use Rattle.c_acts.proofs.PathLemmas.{write_fails}
use Rattle.c_acts.proofs.paths.write_from.Goals as goal

pub returns-in_err-base-clause-result : goal.returns-in_err-base-clause-result
returns-in_err-base-clause-result c =
    let error = err_from_is_err_and c.from_residual.result c.from_residual.ensures.1 in
    rw (error.1, error.2)
    (sym c.loop-other.invariant
    ∙ write_fails c.args.heap.now c.loop-other.base c.args.value c.loop-other.field
    (drop c.loop-other.other-index c.args.others.now) c.in_err-base.field-0.0 (sym c.in_err-base.ensures))
