use Rattle.std.proofs.Common.{◌≡◌, ◌++◌, [], drop}
use Rattle.c_typing.specs.Programs.{funcs_in, main_in}
use Rattle.c_typing.specs.Scopes.{empty_scope, past_items}
use Rattle.c_programs.specs.inner.Making.{or_body}
use Rattle.c_programs.proofs.programs.all_items.Given as goal

abbrev pub invariant-loop-item : goal.invariant-loop-item
invariant-loop-item l = record {
  blocks : l.scope.blocks ≡ [];
  past : past_items l.tables (drop l.item-index l.items) l.scope ≡ past_items l.tables l.items empty_scope;
  funcs : l.made.funcs ++ funcs_in l.tables (drop l.item-index l.items) l.scope
      ≡ funcs_in l.tables l.items empty_scope;
  body : or_body l.made.body (main_in l.tables (drop l.item-index l.items) l.scope)
      ≡ main_in l.tables l.items empty_scope;
}
