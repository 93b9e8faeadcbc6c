use Rattle.std.proofs.Common.{◌≡◌, map, take}
use Rattle.c_typing.specs.Programs.{field_of}
use Rattle.c_defined.proofs.definitions.fields_in.Given as goal

abbrev pub invariant-loop-member : goal.invariant-loop-member
invariant-loop-member l = l.fields ≡ map field_of (take l.member-index l.members)
