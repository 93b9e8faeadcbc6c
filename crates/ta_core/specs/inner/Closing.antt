-- The states that are reached by arcs, each of which leads from several states to one.
use Rattle.std.specs.Prelude.{◌≡◌, ℕ, ◌+◌, Bool, true, false, List, [], ◌∷◌, slice_index_or, slice_set, MatchBool}
use Rattle.fore_base.specs.Lists.{IsIn}
use Rattle.ta_core.specs.declared.arc.Arc.{Arc}
use Rattle.fore_base.specs.Marks.{IsMarked, all_marked}

mutual
  -- some arc leads to q, and all the states before it are reached
  pub data Reached (arcs : List Arc) : ℕ → Type 0 where
    reach : {q : ℕ} (s : Arc) → IsIn s arcs → s.to ≡ q → ReachedAll arcs s.from → Reached arcs q

  pub data ReachedAll (arcs : List Arc) : List ℕ → Type 0 where
    reach_none : ReachedAll arcs []
    reach_more : {q : ℕ} {qs : List ℕ} → Reached arcs q → ReachedAll arcs qs → ReachedAll arcs (q ∷ qs)

-- each marked state is reached
abbrev pub AreReached : List Arc → List Bool → Type 0
AreReached arcs marks = (q : ℕ) → IsMarked marks q → Reached arcs q

-- where all the states before the arc have marks, it leads to one with a mark
abbrev pub IsTaken : List Bool → Arc → Type 0
IsTaken marks s = all_marked marks s.from ≡ true → IsMarked marks s.to

-- the state to which the arc leads got a mark, which it did not have; or the arc was taken already
abbrev pub Takes : Arc → List Bool → List Bool → Bool → Type 0
Takes s old new added = MatchBool added
    ((slice_index_or old s.to false ≡ false) × (all_marked old s.from ≡ true) × (new ≡ slice_set old s.to true))
    ((new ≡ old) × IsTaken old s)

-- how many states have no mark
abbrev pub gaps : List Bool → ℕ
gaps [] = 0
gaps (true ∷ marks) = gaps marks
gaps (false ∷ marks) = gaps marks + 1
