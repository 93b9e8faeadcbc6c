use Rattle.std.proofs.Common.{sym}
use Rattle.c_typing.specs.Globals.{param_kind, struct_names}
use Rattle.c_functions.proofs.KindLemmas.{mapped_apart}
use Rattle.c_functions.proofs.prototypes.same_params.Goals as goal

pub returns-then-kinds-params : goal.returns-then-kinds-params
returns-then-kinds-params c =
    sym (mapped_apart (param_kind (struct_names c.args.tables.now)) c.args.kinds.now c.args.params.now
    c.if-kinds-params.true)
