use Rattle.std.proofs.Common.{◌≡◌, ◌+◌, drop}
use Rattle.c_check.specs.inner.Items.{kept_name_sites, with_names}
use Rattle.c_expressions.specs.Meeting.{met}
use Rattle.c_check.proofs.definitions.defines_all.Given as goal

abbrev pub invariant-loop-name : goal.invariant-loop-name
invariant-loop-name l = record {
  count : l.count ≡ l.initial.count + l.name-index;
  names : with_names l.names (drop l.name-index l.list) ≡ with_names l.initial.names l.list;
  found : met l.tables l.found (kept_name_sites l.family l.names l.count (drop l.name-index l.list))
      ≡ met l.tables l.initial.found (kept_name_sites l.family l.initial.names l.initial.count l.list);
}
