use Rattle.std.proofs.Common.{ap, ◌∙◌}
use Rattle.c_typing.specs.Globals.{function_number}
use Rattle.c_scopes.specs.InScope.{moved}
use Rattle.c_scopes.proofs.heads.begin.Goals as goal

pub returns : goal.returns
returns c = c.move_to.ensures
    ∙ ap (λ n. moved n c.args.scope.now)
    (c.function_of.ensures ∙ ap (function_number c.args.tables.now) c.as_slice.ensures)
