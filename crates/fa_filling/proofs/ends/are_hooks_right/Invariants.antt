use Rattle.std.proofs.Common.{take}
use Rattle.fore_base.specs.Lists.{Every}
use Rattle.fa_filling.specs.Ruled.{SlotAlways}
use Rattle.fa_filling.proofs.ends.are_hooks_right.Given as goal

abbrev pub invariant-loop-slot : goal.invariant-loop-slot
invariant-loop-slot l = Every (SlotAlways l.face l.shape) (take l.slot-index l.slots)
