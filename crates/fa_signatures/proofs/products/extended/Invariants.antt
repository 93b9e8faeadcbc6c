use Rattle.std.proofs.Common.{◌≡◌, [], ◌∷◌, ◌++◌, map, take}
use Rattle.fa_signatures.proofs.products.extended.Given as goal

abbrev pub invariant-loop-item : goal.invariant-loop-item
invariant-loop-item g l = l.made ≡ map (λ x. l.list ++ x ∷ []) (take l.item-index l.items)
