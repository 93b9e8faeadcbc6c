-- Relations from which pairs are taken away until they are an upward simulation.
use Rattle.std.specs.Prelude.{◌≡◌, ℕ, ◌<◌, Bool, List, length, slice_index, MatchBool}
use Rattle.ta_core.specs.Auto.{Automaton}
use Rattle.ta_core.specs.Simulations.{IsUpward, IsSimulatedUpward}
use Rattle.ta_sim.specs.declared.grouping.Use.{Use}
use Rattle.ta_sim.specs.inner.Refining.{pair_count}
use Rattle.ta_sim.specs.Relations.{Relates}

-- the lists are as long as each other, and the rows relate the states in each place but i
abbrev pub AreRelatedBut : List (List Bool) → ℕ → List ℕ → List ℕ → Type 0
AreRelatedBut rows i ps qs = (length ps ≡ length qs)
    × ((k : ℕ) → k < length ps → (k ≡ i → ⊥) → Relates rows (slice_index ps k) (slice_index qs k))

-- v matches u: it is at the same place of a rule with the same symbol, whose other children are related by the relation
-- from below, and whose state by the rows
abbrev pub IsRaise : List (List Bool) → List (List Bool) → Use → Use → Type 0
IsRaise down rows u v = (v.place ≡ u.place) × Relates rows u.rule.state v.rule.state
    × (v.rule.symbol ≡ u.rule.symbol) × AreRelatedBut down u.place u.rule.children v.rule.children

-- the rows relate each two states of which some upward simulation by the relation from below relates the one to the
-- other
abbrev pub IncludesUpward : Automaton → List (List Bool) → List (List Bool) → Type 0
IncludesUpward a down rows = (p q : ℕ) → p < a.states → q < a.states → IsSimulatedUpward a (Relates down) p q
    → Relates rows p q

-- there are fewer pairs; or the rows are as before, and an upward simulation
abbrev pub Raises : Automaton → List (List Bool) → List (List Bool) → List (List Bool) → Bool → Type 0
Raises a down old new changed = MatchBool changed (pair_count new < pair_count old)
    ((new ≡ old) × IsUpward a (Relates down) (Relates old))
