use Rattle.std.proofs.Common.{◌≡◌, ◌++◌, drop}
use Rattle.c_typing.specs.Programs.{parts_stmts}
use Rattle.c_typing.specs.Scopes.{outer, past_parts}
use Rattle.c_making.proofs.statements.«+make».Given as goal

abbrev pub invariant-parts_stmts-loop-part : goal.invariant-parts_stmts-loop-part
invariant-parts_stmts-loop-part l = record {
  past : past_parts l.tables (drop l.part-index l.parts) l.scope ≡ past_parts l.tables l.parts l.initial.scope;
  outer : outer l.scope.blocks ≡ outer l.initial.scope.blocks;
  stmts : l.all ++ parts_stmts l.tables (drop l.part-index l.parts) l.scope
      ≡ parts_stmts l.tables l.parts l.initial.scope;
}
