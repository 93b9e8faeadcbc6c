use Rattle.std.proofs.Common.{ap}
use Rattle.c_typing.specs.Scopes.{Scope}
use Rattle.c_check.proofs.functions.begins.Goals as goal

pub result_faults-requires : goal.result_faults-requires
result_faults-requires c = ap (λ (s : Scope). s.blocks) c.begin.ensures
