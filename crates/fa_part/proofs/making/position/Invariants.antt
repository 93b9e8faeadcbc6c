use Rattle.std.proofs.Common.{◌≡◌, ◌+◌, drop}
use Rattle.fa_core.specs.Folding.{position}
use Rattle.fa_part.proofs.making.position.Given as goal

abbrev pub invariant-loop-other : goal.invariant-loop-other
invariant-loop-other l = (l.place ≡ l.other-index)
    × (l.place + position (drop l.other-index l.order) l.root ≡ position l.order l.root)
