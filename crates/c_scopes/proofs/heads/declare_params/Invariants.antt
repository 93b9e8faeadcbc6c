use Rattle.std.proofs.Common.{◌≡◌, ◌++◌, drop}
use Rattle.c_typing.specs.Programs.{param_refs}
use Rattle.c_typing.specs.Scopes.{past_params}
use Rattle.c_scopes.proofs.heads.declare_params.Given as goal

abbrev pub invariant-loop-param : goal.invariant-loop-param
invariant-loop-param l = record {
  past : past_params l.tables (drop l.param-index l.params) l.scope ≡ past_params l.tables l.params l.initial.scope;
  refs : l.refs ++ param_refs l.tables (drop l.param-index l.params) l.scope
      ≡ param_refs l.tables l.params l.initial.scope;
}
