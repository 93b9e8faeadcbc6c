use Rattle.std.proofs.Common.{◌≡◌, drop}
use Rattle.c_typing.specs.ItemSites.{own_params_sites}
use Rattle.c_typing.specs.Scopes.{past_params}
use Rattle.c_expressions.specs.Meeting.{met}
use Rattle.c_check.proofs.functions.params_faults.Given as goal

abbrev pub invariant-loop-param : goal.invariant-loop-param
invariant-loop-param l = record {
  past : past_params l.tables (drop l.param-index l.params) l.scope
      ≡ past_params l.tables l.params l.initial.scope;
  found : met l.tables l.found (own_params_sites l.tables (drop l.param-index l.params) l.scope)
      ≡ met l.tables l.initial.found (own_params_sites l.tables l.params l.initial.scope);
}
