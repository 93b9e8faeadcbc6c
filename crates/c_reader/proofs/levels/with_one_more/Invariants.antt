use Rattle.std.proofs.Common.{◌≡◌, take}
use Rattle.c_reader.proofs.levels.with_one_more.Given as goal

abbrev pub invariant-loop-kind : goal.invariant-loop-kind
invariant-loop-kind l = (l.open.items ≡ take l.kind-index l.kinds) × (l.open.capacity ≡ 64)
