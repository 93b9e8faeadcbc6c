-- What an arc adds, and what is reached when no arc adds.
use Rattle.std.proofs.Common.{◌≡◌, inl, inr, ℕ, zero, suc, ◌<◌, ◌+◌, Bool, true, false, true≢false, List, [], ◌∷◌}
use Rattle.std.proofs.Common.{length, get_or, set, replicate, refl, sym, ap, subst, ◌∙◌, arith, length-set}
use Rattle.std.specs.Bool.{MatchBool}
use Rattle.fore_base.specs.Lists.{IsIn, Every}
use Rattle.ta_core.specs.declared.arc.Arc.{Arc}
use Rattle.ta_core.specs.inner.Closing.{Reached, reach, ReachedAll, reach_none, reach_more, AreReached, IsTaken, Takes}
use Rattle.ta_core.specs.inner.Closing.{gaps}
use Rattle.fore_base.specs.Marks.{IsMarked, MarksOf, all_marked}
use Rattle.fore_base.proofs.ListLemmas.{every_in}
use Rattle.fore_base.proofs.MarkLemmas.{all_from, all_to, marked_new, unmarked_none}

-- a new mark leaves one gap less
pub gaps_set : (marks : List Bool) (i : ℕ) → i < length marks → get_or marks i false ≡ false
    → gaps marks ≡ gaps (set marks i true) + 1
gaps_set [] i h e = absurd (omega arith)
gaps_set (true ∷ bs) zero h e = absurd (true≢false e)
gaps_set (false ∷ bs) zero h e = refl
gaps_set (true ∷ bs) (suc i) h e = gaps_set bs i (omega arith) e
gaps_set (false ∷ bs) (suc i) h e = let g = gaps_set bs i (omega arith) e in rw g refl

reached_all : (arcs : List Arc) (qs : List ℕ) → Every (Reached arcs) qs → ReachedAll arcs qs
reached_all arcs [] h = reach_none
reached_all arcs (q ∷ qs) h = reach_more h.0 (reached_all arcs qs h.1)

every_reached : (arcs : List Arc) (marks : List Bool) → AreReached arcs marks → (qs : List ℕ)
    → Every (IsMarked marks) qs → Every (Reached arcs) qs
every_reached arcs marks f [] h = tt
every_reached arcs marks f (q ∷ qs) h = (f q h.0, every_reached arcs marks f qs h.1)

-- what an arc marks is reached
pub arc_reached : (arcs : List Arc) (s : Arc) (marks : List Bool) → IsIn s arcs → all_marked marks s.from ≡ true
    → AreReached arcs marks → AreReached arcs (set marks s.to true)
arc_reached arcs s marks i a f q m = elim (marked_new marks s.to q m) [
  | inl e ↦ reach s i (sym e) (reached_all arcs s.from (every_reached arcs marks f s.from (all_from marks s.from a)))
  | inr o ↦ f q o
]

-- nothing is reached at first
pub none_reached : (n : ℕ) (arcs : List Arc) → AreReached arcs (replicate n false)
none_reached n arcs q m = absurd (unmarked_none n q m)

module _ (arcs : List Arc) (marks : List Bool) (taken : Every (IsTaken marks) arcs) where
  mutual
    reached_marked : {q : ℕ} → Reached arcs q → IsMarked marks q
    reached_marked (reach s i e a) = let t = every_in (IsTaken marks) arcs s taken i in
        subst (IsMarked marks) e (t (all_to marks s.from (all_reached_marked a)))

    all_reached_marked : {qs : List ℕ} → ReachedAll arcs qs → Every (IsMarked marks) qs
    all_reached_marked reach_none = tt
    all_reached_marked (reach_more r rs) = (reached_marked r, all_reached_marked rs)

  -- where each arc is taken, the marks are of the states that are reached
  pub closed : (n : ℕ) → length marks ≡ n → AreReached arcs marks → MarksOf n (Reached arcs) marks
  closed n long only = record { long = long; only = only; each = λ q r. reached_marked r }

-- an arc that is taken marks what is reached and leaves fewer gaps, or it was taken already
pub arc_taken : (arcs : List Arc) (n : ℕ) (s : Arc) (now new : List Bool) (added : Bool) → IsIn s arcs × (s.to < n)
    → (length now ≡ n) × AreReached arcs now → Takes s now new added
    → ((length new ≡ n) × AreReached arcs new) × MatchBool added (gaps new < gaps now) ((new ≡ now) × IsTaken now s)
arc_taken arcs n s now new true given kept taken =
    let k = kept.0 in let low = given.1 in
    let g = gaps_set now s.to (omega (arith, k, low)) taken.0 in
    let e = ap gaps taken.2 in (
      (
        ap length taken.2 ∙ length-set now s.to true ∙ kept.0,
        subst (AreReached arcs) (sym taken.2) (arc_reached arcs s now given.0 taken.1 kept.1),
      ),
      omega (arith, g, e),
    )
arc_taken arcs n s now new false given kept taken =
    ((ap length taken.0 ∙ kept.0, subst (AreReached arcs) (sym taken.0) kept.1), taken)
