use Rattle.std.proofs.Common.{take}
use Rattle.fore_base.specs.Lists.{Every}
use Rattle.fa_boxes.specs.Tops.{HasNoLeaf}
use Rattle.fa_faces.proofs.ports.are_all_cells.Given as goal

abbrev pub invariant-loop-auto : goal.invariant-loop-auto
invariant-loop-auto l = Every HasNoLeaf (take l.auto-index l.autos)
