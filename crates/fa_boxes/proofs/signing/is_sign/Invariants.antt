use Rattle.std.proofs.Common.{◌↔◌, drop}
use Rattle.fore_base.specs.Lists.{IsIn}
use Rattle.fa_boxes.specs.inner.Signs.{sign}
use Rattle.fa_boxes.proofs.signing.is_sign.Given as goal

abbrev pub invariant-loop-other : goal.invariant-loop-other
invariant-loop-other l = IsIn (sign l.marks) (drop l.other-index l.list) ↔ IsIn (sign l.marks) l.list
