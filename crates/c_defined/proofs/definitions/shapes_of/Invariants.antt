use Rattle.std.proofs.Common.{◌≡◌, map, take}
use Rattle.c_typing.specs.Programs.{shape_of}
use Rattle.c_defined.proofs.definitions.shapes_of.Given as goal

abbrev pub invariant-loop-one : goal.invariant-loop-one
invariant-loop-one l = l.shapes ≡ map shape_of (take l.one-index l.one-items)
