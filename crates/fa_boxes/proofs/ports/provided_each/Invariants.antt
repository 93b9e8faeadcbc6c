use Rattle.std.proofs.Common.{◌≡◌, map, take}
use Rattle.fa_boxes.specs.inner.Parts.{provided_by}
use Rattle.fa_boxes.proofs.ports.provided_each.Given as goal

abbrev pub invariant-loop-signature : goal.invariant-loop-signature
invariant-loop-signature l = l.all ≡ map (provided_by l.root) (take l.signature-index l.list)
