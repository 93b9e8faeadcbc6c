-- Cells in order of their numbers, as the machine keeps them.
use Rattle.std.specs.Prelude.{ℕ, suc, ◌<◌, ◌≤◌, List, [], ◌∷◌, nat_eq, if◌then◌else◌, Option, Some, None}
use Rattle.fore_base.specs.declared.store.CellRec.{CellRec}
use Rattle.fore_base.specs.declared.store.Store.{Store}
use Rattle.fore_base.specs.Lists.{Every}

-- the numbers rise, from `low` on
abbrev pub CellsRiseFrom : ℕ → List CellRec → Type 0
CellsRiseFrom low [] = Unit {0}
CellsRiseFrom low (c ∷ cs) = (low ≤ c.number) × CellsRiseFrom (suc c.number) cs

-- the cells stand in order of their numbers, which are below `next`
abbrev pub HasRisingCells : Store → Type 0
HasRisingCells s = CellsRiseFrom 0 s.cells × Every (λ c. c.number < s.next) s.cells

abbrev pub one_more : Option ℕ → Option ℕ
one_more None = None
one_more (Some i) = Some (suc i)

-- the position of the first cell of a number
abbrev pub position_in : List CellRec → ℕ → Option ℕ
position_in [] n = None
position_in (c ∷ cs) n = if nat_eq c.number n then Some 0 else one_more (position_in cs n)
