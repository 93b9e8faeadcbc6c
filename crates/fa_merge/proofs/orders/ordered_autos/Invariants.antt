use Rattle.std.proofs.Common.{◌≡◌, take, map}
use Rattle.fa_core.specs.Placed.{placed_auto}
use Rattle.fa_merge.specs.Reordered.{place_of, renumber}
use Rattle.fa_sound.specs.Components.{component_at}
use Rattle.fa_merge.proofs.orders.ordered_autos.Given as goal

abbrev pub invariant-loop-root : goal.invariant-loop-root
invariant-loop-root l = l.made
    ≡ map (λ k. placed_auto (renumber (place_of l.order)) (component_at l.autos k)) (take l.root-index l.order)
