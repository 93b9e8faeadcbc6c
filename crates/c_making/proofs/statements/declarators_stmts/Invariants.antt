use Rattle.std.proofs.Common.{◌≡◌, ◌++◌, drop}
use Rattle.c_typing.specs.Programs.{declarators_stmts}
use Rattle.c_typing.specs.Scopes.{all_declared}
use Rattle.c_making.proofs.statements.declarators_stmts.Given as goal

abbrev pub invariant-loop-var : goal.invariant-loop-var
invariant-loop-var l = record {
  past : all_declared l.kind (drop l.var-index l.vars) l.scope ≡ all_declared l.kind l.vars l.initial.scope;
  stmts : l.all ++ declarators_stmts l.tables l.kind (drop l.var-index l.vars) l.scope
      ≡ declarators_stmts l.tables l.kind l.vars l.initial.scope;
}
