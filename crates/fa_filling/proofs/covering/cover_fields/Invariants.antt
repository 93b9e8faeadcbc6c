use Rattle.std.proofs.Common.{take}
use Rattle.fore_base.specs.Lists.{Every}
use Rattle.fa_core.specs.Filled.{covers, HasField}
use Rattle.fa_filling.proofs.covering.cover_fields.Given as goal

abbrev pub invariant-loop-slot : goal.invariant-loop-slot
invariant-loop-slot l = Every (λ x. HasField (covers l.boxes x)) (take l.slot-index l.slots)
