-- Visits of roots: what one does to the roots that are to be visited, and to those that are placed.
use Rattle.std.specs.Prelude.{◌≡◌, ℕ, List, [], ◌∷◌, ◌++◌, Some, slice_get}
use Rattle.fore_base.specs.Lists.{IsIn}

-- the visit of root r, which the table says to refer to some roots, before `todo`: where the root is placed nothing
-- changes, and else it is placed and the roots to which it refers are to be visited first
pub data IsVisit (refers : List (List ℕ)) (r : ℕ) (todo placed : List ℕ) : List ℕ → List ℕ → Type 0 where
  was_placed : IsIn r placed → IsVisit refers r todo placed todo placed
  placed_now : {rs : List ℕ} → (IsIn r placed → ⊥) → slice_get refers r ≡ Some rs
      → IsVisit refers r todo placed (rs ++ todo) (placed ++ r ∷ [])
