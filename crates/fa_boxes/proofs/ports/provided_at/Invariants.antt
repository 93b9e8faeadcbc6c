use Rattle.std.proofs.Common.{◌≡◌, drop}
use Rattle.fa_core.specs.Cells.{mark_of}
use Rattle.fa_boxes.proofs.ports.provided_at.Given as goal

abbrev pub invariant-loop-mark : goal.invariant-loop-mark
invariant-loop-mark l = mark_of l.root (drop l.mark-index l.marks) ≡ mark_of l.root l.marks
