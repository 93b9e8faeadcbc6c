-- The arcs by which the states of an automaton are reached, from below and from above.
use Rattle.std.specs.Prelude.{ℕ, Bool, false, List, [], ◌∷◌, ◌++◌, map, if◌then◌else◌, slice_index_or}
use Rattle.ta_core.specs.declared.auto.Rule.{Rule}
use Rattle.ta_core.specs.declared.arc.Arc.{Arc}
use Rattle.fore_base.specs.Marks.{all_marked}

-- from the children of a rule to its state
abbrev pub up_arc : Rule → Arc
up_arc r = record { from = r.children; to = r.state }

-- the state is reached at once
abbrev pub first_arc : ℕ → Arc
first_arc q = record { from = []; to = q }

-- from state p to state q
abbrev pub down_arc : ℕ → ℕ → Arc
down_arc p q = record { from = p ∷ []; to = q }

-- each marked one of the states is reached at once
abbrev pub root_arcs : List Bool → List ℕ → List Arc
root_arcs marks [] = []
root_arcs marks (q ∷ qs) = if slice_index_or marks q false then first_arc q ∷ root_arcs marks qs else root_arcs marks qs

-- from the state of each rule to each of its children, where all these have marks
abbrev pub rule_arcs : List Bool → List Rule → List Arc
rule_arcs marks [] = []
rule_arcs marks (r ∷ rs) = (if all_marked marks r.children then map (down_arc r.state) r.children else [])
    ++ rule_arcs marks rs
