use Rattle.std.proofs.Common.{take}
use Rattle.fa_core.specs.Folding.{AreInnerAutos, position}
use Rattle.fa_part.proofs.components.inner_components.Given as goal

abbrev pub invariant-loop-root : goal.invariant-loop-root
invariant-loop-root l = AreInnerAutos (position l.order) l.forest.autos (take l.root-index l.inner) l.made
