use Rattle.std.proofs.Common.{ap, ◌∙◌}
use Rattle.c_typing.specs.Globals.{params_of}
use Rattle.c_typing.specs.Scopes.{past_params}
use Rattle.c_scopes.proofs.heads.past_head.Goals as goal

pub returns : goal.returns
returns c =
    let g = c.args.tables.now in
    let head = c.args.head.now in
    c.in_ok-_refs.ensures.scope
    ∙ ap (λ ps. past_params g ps c.begin_result.new.scope) c.params_of.ensures
    ∙ ap (past_params g (params_of head.params)) c.in_ok-_variable.ensures.scope
