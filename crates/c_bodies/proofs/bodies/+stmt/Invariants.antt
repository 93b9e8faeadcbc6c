use Rattle.std.proofs.Common.{◌≡◌, drop}
use Rattle.c_typing.specs.BodySites.{parts_sites}
use Rattle.c_typing.specs.Scopes.{outer, past_parts}
use Rattle.c_expressions.specs.Meeting.{met}
use Rattle.c_bodies.proofs.bodies.«+stmt».Given as goal

abbrev pub invariant-parts_faults-loop-part : goal.invariant-parts_faults-loop-part
invariant-parts_faults-loop-part l = record {
  past : past_parts l.tables (drop l.part-index l.parts) l.scope ≡ past_parts l.tables l.parts l.initial.scope;
  outer : outer l.scope.blocks ≡ outer l.initial.scope.blocks;
  found : met l.tables l.found (parts_sites l.tables (drop l.part-index l.parts) l.looping l.scope)
      ≡ met l.tables l.initial.found (parts_sites l.tables l.parts l.looping l.initial.scope);
}
