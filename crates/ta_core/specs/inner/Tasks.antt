-- What is still to be done where a tree is gone through, or made, without a call for each level of it.
use Rattle.std.specs.Prelude.{◌≡◌, ℕ, ◌+◌, ◌*◌, List, [], ◌∷◌, ◌++◌, length, reverse}
use Rattle.fore_base.specs.Lists.{Paired}

-- a node that is to be visited: what is below it, and then it; or one that is to be built, since what is below it is
-- done
pub data Todo (V B : Type 0) : Type 0 where
  visit : V → Todo V B
  build : B → Todo V B

-- where there are results for the nodes vs, the last one first, the tasks, the last one first, make of them results for
-- the nodes us. Known is what is known of a node that is visited; Over v b below says that b builds v over the nodes
-- below
abbrev pub Leaves : {V B : Type 0} → (V → Type 0) → (V → B → List V → Type 0) → List (Todo V B) → List V → List V
    → Type 0
Leaves Known Over [] us vs = us ≡ vs
Leaves {V} {B} Known Over (visit v ∷ tasks) us vs = (rest : List V) × (us ≡ v ∷ rest) × Known v
    × Leaves Known Over tasks rest vs
Leaves {V} {B} Known Over (build b ∷ tasks) us vs = (v : V) × (below : List V) × (rest : List V) × (us ≡ v ∷ rest)
    × Over v b below × Leaves Known Over tasks (below ++ rest) vs

-- the results that are there, each of which Gives relates to its node, are such that the tasks leave one for the root
-- alone
abbrev pub IsUnderway : {V B R : Type 0} → (V → Type 0) → (V → B → List V → Type 0) → (V → R → Type 0) → V
    → List (Todo V B) → List R → Type 0
IsUnderway {V} Known Over Gives root tasks results = (vs : List V) × Leaves Known Over tasks (root ∷ []) vs
    × Paired Gives vs (reverse results)

-- so many results went off the end, the last one first, and one came that P relates to them
pub record Reduces {R : Type 0} (count : ℕ) (P : List R → R → Type 0) (old new : List R) : Type 0 where
  pub parts : List R
  pub rest : List R
  pub long : length parts ≡ count
  pub before : reverse old ≡ parts ++ rest
  pub made : R
  pub after : reverse new ≡ made ∷ rest
  pub is : P parts made

-- how much the tasks are, where a node's weight is more than those of the nodes below it
abbrev pub work : {V B : Type 0} → (V → ℕ) → List (Todo V B) → ℕ
work w [] = 0
work w (visit v ∷ tasks) = 2 * w v + work w tasks
work w (build b ∷ tasks) = 1 + work w tasks
