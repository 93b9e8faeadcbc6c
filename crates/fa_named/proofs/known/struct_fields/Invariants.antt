use Rattle.std.proofs.Common.{◌≡◌, map, take}
use Rattle.fa_named.specs.Structs.{fields_of}
use Rattle.fa_named.proofs.known.struct_fields.Given as goal

abbrev pub invariant-loop-shape : goal.invariant-loop-shape
invariant-loop-shape l = l.all ≡ map fields_of (take l.shape-index l.structs)
