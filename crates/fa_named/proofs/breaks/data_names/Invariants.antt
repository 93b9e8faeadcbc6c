use Rattle.std.proofs.Common.{◌≡◌, map, take}
use Rattle.fa_named.proofs.breaks.data_names.Given as goal

abbrev pub invariant-loop-item : goal.invariant-loop-item
invariant-loop-item l = l.names ≡ map (λ d. d.name) (take l.item-index l.items)
