-- Explorations that end otherwise than with a full budget.
use Rattle.fix_core.specs.declared.explored.Explored.{Explored}
use Rattle.fix_core.specs.declared.explored.Explored.TheVariants.{Closed, Faulty, Spent}

-- every node is done, or some members of one meet a fault: the budget is not full
abbrev pub IsDecided : Explored → Type 0
IsDecided (Closed nodes) = Unit {0}
IsDecided (Faulty nodes trace) = Unit {0}
IsDecided (Spent nodes) = ⊥
