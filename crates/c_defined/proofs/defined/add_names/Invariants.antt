use Rattle.std.proofs.Common.{◌≡◌, ◌++◌, map, drop}
use Rattle.c_defined.specs.inner.Definitions.{member_of}
use Rattle.c_defined.proofs.defined.add_names.Given as goal

abbrev pub invariant-loop-name : goal.invariant-loop-name
invariant-loop-name l = l.members ++ map (member_of l.kind) (drop l.name-index l.names) ≡ l.initial.members
    ++ map (member_of l.kind) l.names
