use Rattle.std.proofs.Common.{◌≡◌, map, take}
use Rattle.fa_named.proofs.slots.datums_of.Given as goal

abbrev pub invariant-loop-item : goal.invariant-loop-item
invariant-loop-item l = l.made ≡ map (λ d. d.datum) (take l.item-index l.items)
