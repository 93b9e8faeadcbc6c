use Rattle.std.proofs.Common.{◌-◌, ◌∙◌, ap}
use Rattle.std.specs.Prelude.{slice_set}
use Rattle.std.proofs.lemmas.Result.{err_from_is_err_and}
use Rattle.c_scopes.proofs.ScopeLemmas.{put_last, put_back}
use Rattle.c_scopes.proofs.scopes.put.Goals as goal

pub returns-in_err-push-clause-err : goal.returns-in_err-push-clause-err
returns-in_err-push-clause-err c =
    let p = err_from_is_err_and c.from_residual.result c.from_residual.ensures.1 in
    let blocks = c.args.blocks.now in
    let k = c.len-last.result - 1 in
    rw p.1 (ap (slice_set blocks k) c.in_err-push.ensures.err
    ∙ put_back blocks k c.at_mut-block.result.now c.at_mut-block.ensures.value)

pub returns-clause-ok : goal.returns-clause-ok
returns-clause-ok c = put_last c.args.blocks.now (c.len-last.result - 1) c.at_mut-block.result.now c.push.new.self
    c.args.entry c.requires (ap (λ n. n - 1) c.len-last.ensures) c.at_mut-block.ensures.value c.in_ok-push.ensures.ok
