use Rattle.std.proofs.Common.{ap, ◌∙◌}
use Rattle.c_typing.specs.Programs.{result_ref}
use Rattle.c_typing.specs.Scopes.{opened, result_declared, result_of}
use Rattle.c_scopes.proofs.heads.begin_result.Goals as goal

pub returns-clause-result : goal.returns-clause-result
returns-clause-result c =
    let g = c.args.tables.now in
    let head = c.args.head.now in
    c.in_ok-variable.ensures ∙ ap (λ k. result_ref k c.begin.new.scope) c.result_of-kind.ensures
    ∙ ap (result_ref (result_of g head)) c.begin.ensures

pub returns-clause-scope : goal.returns-clause-scope
returns-clause-scope c =
    let g = c.args.tables.now in
    let head = c.args.head.now in
    c.in_ok-open_params.ensures
    ∙ ap (λ k. opened (result_declared k head.name.text c.begin.new.scope)) c.result_of-kind.ensures
    ∙ ap (λ s. opened (result_declared (result_of g head) head.name.text s)) c.begin.ensures
