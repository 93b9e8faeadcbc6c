use Rattle.std.proofs.Common.{◌≡◌, take}
use Rattle.fa_named.specs.Structs.{struct_names}
use Rattle.fa_named.proofs.known.struct_names.Given as goal

abbrev pub invariant-loop-shape : goal.invariant-loop-shape
invariant-loop-shape l = l.names ≡ struct_names (take l.shape-index l.structs)
