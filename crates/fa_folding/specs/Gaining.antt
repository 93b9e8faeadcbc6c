-- Components of ports after a fold: the slots that are left, and those that are gained.
use Rattle.std.specs.Prelude.{ℕ, ◌+◌, not, filter, List, [], ◌∷◌, ◌++◌, Option, Some, None, if◌then◌else◌, nat_eq}
use Rattle.ta_core.specs.Auto.{Automaton}
use Rattle.ta_core.specs.declared.auto.Rule.{Rule}
use Rattle.ta_core.specs.declared.symbol.Slot.TheVariants.{Link, Hook}
use Rattle.ta_core.specs.declared.symbol.Symbol.TheVariants.{Ref}
use Rattle.fa_core.specs.declared.faces.BoxFace.{BoxFace}
use Rattle.fa_core.specs.Folding.{is_one_of}
use Rattle.fa_split.specs.Chosen.{chosen}
use Rattle.fa_split.specs.Split.{top_rule}
use Rattle.fa_unfold.specs.Slots.{Place, joined, place_key, rule_places, with_places}

-- the slots at the top that are none of the fields, each with the state of its child
abbrev pub left_places : List ℕ → Automaton → List Place
left_places fs a = filter (λ p. not (is_one_of fs p.0)) (rule_places (top_rule a))

-- the slot of box n, over a leaf at state q that refers to the output's root, where the box has an output
abbrev pub edge_place : ℕ → ℕ → Option ℕ → Place
edge_place n q None = (Hook n, [])
edge_place n q (Some j) = (Link n, q ∷ [])

-- the rule of that leaf
abbrev pub edge_rules : ℕ → Option ℕ → List Rule
edge_rules q None = []
edge_rules q (Some j) = record { state = q; symbol = Ref j; children = [] } ∷ []

-- the automaton with these rules at a state of their own
abbrev pub with_rules : Automaton → List Rule → Automaton
with_rules a xs = record { states = a.states + 1; roots = a.roots; rules = a.rules ++ xs }

-- the automaton with the cell of its one rule at the top, without the fields, and with the slots that are gained
abbrev pub gained_auto : List BoxFace → List ℕ → List Rule → List Place → Automaton → Automaton
gained_auto bs fs xs gain a =
    chosen (with_rules a xs) (with_places (top_rule a) (joined (place_key bs) (left_places fs a) gain))

-- the component of an input after the fold, and that of another port
abbrev pub input_auto : List BoxFace → List ℕ → ℕ → Option ℕ → Automaton → Automaton
input_auto bs fs n out a = gained_auto bs fs (edge_rules a.states out) (edge_place n a.states out ∷ []) a

abbrev pub output_auto : List BoxFace → List ℕ → Automaton → Automaton
output_auto bs fs a = gained_auto bs fs [] [] a
