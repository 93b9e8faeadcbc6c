use Rattle.std.proofs.Common.{take}
use Rattle.fore_base.specs.Lists.{Paired}
use Rattle.fa_filling.specs.Parted.{IsPartFor}
use Rattle.fa_filling.proofs.parts.parts_for.Given as goal

abbrev pub invariant-loop-shape : goal.invariant-loop-shape
invariant-loop-shape l = Paired (IsPartFor l.whole l.tops) (take l.shape-index l.structs) l.parts
