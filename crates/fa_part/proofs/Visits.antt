-- The walk that finds the roots of a part: what goes on behind a visit is the walk with the visit.
use Rattle.std.proofs.Common.{ℕ, List, [], ◌∷◌, ◌++◌, subst}
use Rattle.fa_core.specs.Folding.{Placing, is_placed, place_now}
use Rattle.fa_order.specs.Visits.{IsVisit, was_placed, placed_now}
use Rattle.fa_order.specs.inner.Stacks.{nth_refs}
use Rattle.fa_order.proofs.Weights.{nth_got}

pub visit_places : (refers : List (List ℕ)) (r : ℕ) (todo placed : List ℕ) {next now : List ℕ}
    → IsVisit refers r todo placed next now → (order : List ℕ) → Placing (nth_refs refers) next now order
    → Placing (nth_refs refers) (r ∷ todo) placed order
visit_places refers r todo placed (was_placed i) order w = is_placed i w
visit_places refers r todo placed (placed_now {rs = rs} o e) order w =
    place_now o
    (subst (λ (z : List ℕ). Placing (nth_refs refers) (z ++ todo) (placed ++ r ∷ []) order) (nth_got refers r rs e) w)
