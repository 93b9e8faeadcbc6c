-- Relations from which pairs are taken away in rounds.
use Rattle.std.specs.Prelude.{◌≡◌, ℕ, ◌<◌, ◌+◌, Bool, List, [], ◌∷◌, length, slice_index_or, MatchBool}
use Rattle.fore_base.specs.Marks.{MarksOf, marked_count}
use Rattle.ta_core.specs.Simulations.{IsDownward, IsSimulated}
use Rattle.ta_core.specs.declared.auto.Rule.{Rule}
use Rattle.ta_sim.specs.Relations.{Relates}

-- the rows relate each two states below n of which the one simulates the other
abbrev pub Includes : ℕ → List Rule → List (List Bool) → Type 0
Includes n rules rows = (p q : ℕ) → p < n → q < n → IsSimulated rules p q → Relates rows p q

-- each of the rows has those of the numbers below n that P relates
abbrev pub AreMade : ℕ → (ℕ → ℕ → Type 0) → List (List Bool) → Type 0
AreMade n P rows = (p : ℕ) → p < length rows → MarksOf n (λ q. (q < n) × P p q) (slice_index_or rows p [])

-- how many pairs the rows relate
abbrev pub pair_count : List (List Bool) → ℕ
pair_count [] = 0
pair_count (row ∷ rows) = marked_count row + pair_count rows

-- there are fewer pairs; or the rows are as before, and a simulation
abbrev pub Refines : List Rule → List (List Bool) → List (List Bool) → Bool → Type 0
Refines rules old new changed =
    MatchBool changed (pair_count new < pair_count old) ((new ≡ old) × IsDownward rules (Relates old))
