-- What is still to be done for the tree by which a pair was found.
use Rattle.std.specs.Prelude.{◌≡◌, ℕ, ◌<◌, List, ◌∷◌, ◌++◌, length, map, slice_get, Some}
use Rattle.ta_core.specs.Auto.{Automaton}
use Rattle.ta_core.specs.declared.auto.Rule.{Rule}
use Rattle.ta_core.specs.declared.tree.Tree.{Tree, roll-Tree}
use Rattle.ta_core.specs.inner.Tasks.{Todo, visit, build, Reduces}
use Rattle.ta_incl.specs.declared.found.Found.{Found}
use Rattle.ta_incl.specs.declared.growing.Task.{Task}
use Rattle.ta_incl.specs.declared.growing.Task.TheVariants.{Open, Close}
use Rattle.ta_incl.specs.inner.Founds.{AreDerived, IsTreeAt}

-- the task, as one for the pair at a place
abbrev pub seen : Task → Todo ℕ ℕ
seen (Open p) = visit p
seen (Close p) = build p

-- there is a pair at the place
abbrev pub IsPlace : List Found → ℕ → Type 0
IsPlace found p = p < length found

-- the tree of the pair at the place is built by itself, over those of the pairs from which it is derived
abbrev pub IsOver : List Found → ℕ → ℕ → List ℕ → Type 0
IsOver found p q below = (f : Found) × (p ≡ q) × (slice_get found q ≡ Some f) × (below ≡ f.from)

-- the tree is one of the pair at the place, whatever the right automaton is
abbrev pub GivesTree : List Rule → List Found → ℕ → Tree → Type 0
GivesTree rules found p t = (b : Automaton) → AreDerived rules b found → IsTreeAt rules b found p t

-- a task for the pair's own tree, and behind it, so that they come first, one for each pair from which it is derived
abbrev pub Opens : List Found → ℕ → List (Todo ℕ ℕ) → List (Todo ℕ ℕ) → Type 0
Opens found p old new = (f : Found) × (slice_get found p ≡ Some f) × (new ≡ old ++ build p ∷ map visit f.from)

-- the tree of the symbol of the pair's rule came in the place of those of the pairs from which it is derived
abbrev pub Closes : List Rule → List Found → ℕ → List Tree → List Tree → Type 0
Closes rules found p old new = (f : Found) × (r : Rule) × (slice_get found p ≡ Some f)
    × (slice_get rules f.rule ≡ Some r)
    × Reduces (length f.from) (λ ts t. t ≡ roll-Tree (record { symbol = r.symbol; children = ts })) old new
