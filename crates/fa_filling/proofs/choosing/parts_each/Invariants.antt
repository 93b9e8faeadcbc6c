use Rattle.std.proofs.Common.{take}
use Rattle.fa_filling.specs.Parted.{AreParts}
use Rattle.fa_filling.proofs.choosing.parts_each.Given as goal

abbrev pub invariant-loop-auto : goal.invariant-loop-auto
invariant-loop-auto l = AreParts (take l.auto-index l.autos) l.all
