-- Forests whose roots stand in another order: components, references and targets are renumbered together.
use Rattle.std.specs.Prelude.{ℕ, zero, suc, if◌then◌else◌, nat_eq, List, [], ◌∷◌, map, length}
use Rattle.fa_core.specs.declared.forest.Forest.{Forest}
use Rattle.fa_core.specs.declared.forest.Target.{Target}
use Rattle.fa_core.specs.declared.forest.Target.TheVariants.{At}
use Rattle.fa_core.specs.Placed.{placed_leaf, placed_auto}
use Rattle.fa_core.specs.Rearranged.{Rearranged}
pub use Rattle.fa_sound.specs.Components.{component_at}

-- the leaf of a root that has a new number
abbrev pub renumber : (ℕ → ℕ) → ℕ → Target
renumber f k = At (f k)

-- n numbers from k on
abbrev pub counted : ℕ → ℕ → List ℕ
counted k zero = []
counted k (suc n) = k ∷ counted (suc k) n

-- the place of k in the list, whose first item stands at place i; where k is not there, k
abbrev pub place_from : ℕ → List ℕ → ℕ → ℕ
place_from i [] k = k
place_from i (x ∷ xs) k = if nat_eq x k then i else place_from (suc i) xs k

-- the new number of root k, where the roots stand in this order
abbrev pub place_of : List ℕ → ℕ → ℕ
place_of order k = place_from 0 order k

-- the forest whose j-th component is that of the root which stands j-th in `order`; f gives the new numbers
abbrev pub reordered_by : (ℕ → ℕ) → List ℕ → Forest → Forest
reordered_by f order F = record {
  autos = map (λ k. placed_auto (renumber f) (component_at F.autos k)) order;
  vars = map (placed_leaf (renumber f)) F.vars;
  data_vars = F.data_vars;
}

-- the forest whose roots stand in this order
abbrev pub reordered : List ℕ → Forest → Forest
reordered order F = reordered_by (place_of order) order F

-- the list has each root of the forest once
abbrev pub IsOrderOf : Forest → List ℕ → Type 0
IsOrderOf F order = Rearranged order (counted 0 (length F.autos))
