use Rattle.std.proofs.Common.{ap, ◌∙◌}
use Rattle.c_typing.specs.Scopes.{declared}
use Rattle.c_scopes.proofs.heads.declare_named.Goals as goal

pub returns : goal.returns
returns c = c.in_ok-declare.ensures
    ∙ ap (λ x. declared c.args.scope.now x c.args.kind) (c.as_slice.ensures ∙ c.in_ok-text.ensures)
