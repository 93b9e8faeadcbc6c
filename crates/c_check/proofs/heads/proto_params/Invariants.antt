use Rattle.std.proofs.Common.{◌≡◌, [], drop}
use Rattle.c_check.specs.inner.Items.{kept_params_sites}
use Rattle.c_expressions.specs.Meeting.{met}
use Rattle.c_check.proofs.heads.proto_params.Given as goal

abbrev pub invariant-loop-param : goal.invariant-loop-param
invariant-loop-param l = met l.tables l.found (kept_params_sites l.names (drop l.param-index l.params))
    ≡ met l.tables l.initial.found (kept_params_sites [] l.params)
