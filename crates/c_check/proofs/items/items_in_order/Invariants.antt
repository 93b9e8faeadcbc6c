use Rattle.std.proofs.Common.{◌≡◌, ◌||◌, [], drop}
use Rattle.c_typing.specs.Scopes.{empty_scope}
use Rattle.c_check.specs.inner.Items.{any_main, kept_items_sites, nothing_kept}
use Rattle.c_expressions.specs.Meeting.{met}
use Rattle.c_check.proofs.items.items_in_order.Given as goal

abbrev pub invariant-loop-item : goal.invariant-loop-item
invariant-loop-item l = record {
  blocks : l.scope.blocks ≡ [];
  found : met l.tables l.found (kept_items_sites l.tables l.seen (drop l.item-index l.items) l.scope)
      ≡ met l.tables l.initial.found (kept_items_sites l.tables nothing_kept l.items empty_scope);
  main : (l.main || any_main (drop l.item-index l.items)) ≡ any_main l.items;
}
