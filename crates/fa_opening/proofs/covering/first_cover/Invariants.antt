use Rattle.std.proofs.Common.{◌≡◌, false, take}
use Rattle.fore_base.specs.Lists.{Every}
use Rattle.fa_opening.specs.Opened.{slot_covers}
use Rattle.fa_opening.proofs.covering.first_cover.Given as goal

abbrev pub invariant-loop-index : goal.invariant-loop-index
invariant-loop-index l = Every (λ s. slot_covers l.boxes l.field s ≡ false) (take l.index l.slots)
