use Rattle.std.proofs.Common.{◌∷◌, [], ℕ, sym, subst}
use Rattle.fa_core.specs.Rearranged.{Rearranged, swap}
use Rattle.fa_merge.specs.Reordered.{counted}
use Rattle.room_forests.proofs.roots.exchange.Goals as goal

pub reorder-requires : goal.reorder-requires
reorder-requires c =
    subst (λ (n : ℕ). Rearranged (1 ∷ 0 ∷ []) (counted 0 n)) (sym c.requires) (swap 1 0 [])
