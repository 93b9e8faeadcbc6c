use Rattle.std.proofs.Common.{take}
use Rattle.fore_base.specs.Lists.{Every, IsDistinct}
use Rattle.fa_box_rules.specs.Rules.{HaveSignatures}
use Rattle.fa_box_rules.specs.Signs.{AreSigns}
use Rattle.fa_boxes.proofs.signing.signs.Given as goal

abbrev pub invariant-loop-auto : goal.invariant-loop-auto
invariant-loop-auto l =
    AreSigns l.boxes (take l.auto-index l.autos) l.lists
    × Every (HaveSignatures l.boxes) (take l.auto-index l.autos)
    × Every IsDistinct l.lists
