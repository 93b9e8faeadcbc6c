use Rattle.std.proofs.Common.{◌≡◌, drop}
use Rattle.c_typing.specs.BodySites.{declarators_sites}
use Rattle.c_typing.specs.Scopes.{all_declared}
use Rattle.c_expressions.specs.Meeting.{met}
use Rattle.c_bodies.proofs.bodies.declarators_faults.Given as goal

abbrev pub invariant-loop-var : goal.invariant-loop-var
invariant-loop-var l = record {
  past : all_declared l.kind (drop l.var-index l.vars) l.scope ≡ all_declared l.kind l.vars l.initial.scope;
  found : met l.tables l.found (declarators_sites l.tables l.kind (drop l.var-index l.vars) l.scope)
      ≡ met l.tables l.initial.found (declarators_sites l.tables l.kind l.vars l.initial.scope);
}
