use Rattle.std.proofs.Common.{take}
use Rattle.fore_base.specs.Lists.{Every}
use Rattle.fa_core.specs.Rearranged.{Rearranged}
use Rattle.fa_boxes.proofs.ports.are_alike.Given as goal

abbrev pub invariant-loop-other : goal.invariant-loop-other
invariant-loop-other l = Every (Rearranged l.numbers) (take l.other-index l.all)
