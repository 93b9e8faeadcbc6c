use Rattle.std.proofs.Common.{◌≡◌, map, take}
use Rattle.fa_core.specs.Filled.{least, covers}
use Rattle.fa_filling.proofs.covering.leasts.Given as goal

abbrev pub invariant-loop-slot : goal.invariant-loop-slot
invariant-loop-slot l = l.made ≡ map (λ x. least (covers l.boxes x)) (take l.slot-index l.slots)
