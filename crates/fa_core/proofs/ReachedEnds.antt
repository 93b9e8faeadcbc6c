-- What is reached by facts is named where the search begins, or is the value of a fact.
use Rattle.std.proofs.Common.{◌⊎◌, inl, inr, ℕ, true, false, true≢false, Bool, List, [], ◌∷◌, map, ap}
use Rattle.fore_base.specs.Lists.{IsIn}
use Rattle.fore_base.specs.declared.store.Value.{Value}
use Rattle.fore_base.specs.declared.store.Value.TheVariants.{Null, Uninit, Dangling, Cell}
use Rattle.fore_base.proofs.ListLemmas.{in_map}
use Rattle.fa_core.specs.Boxes.{Reaches, named, through}
use Rattle.fa_core.specs.Dressed.{Fact, Head, Points}

abbrev pub fact_value : Fact → Value
fact_value (Head c s ds) = Null
fact_value (Points c f v) = v

-- the cells that the values name
abbrev pub cells_named : List Value → List ℕ
cells_named [] = []
cells_named (Null ∷ vs) = cells_named vs
cells_named (Uninit ∷ vs) = cells_named vs
cells_named (Dangling ∷ vs) = cells_named vs
cells_named (Cell n ∷ vs) = n ∷ cells_named vs

abbrev is_cell : Value → Bool
is_cell Null = false
is_cell Uninit = false
is_cell Dangling = false
is_cell (Cell n) = true

abbrev pub cell_of_value : Value → ℕ
cell_of_value Null = 0
cell_of_value Uninit = 0
cell_of_value Dangling = 0
cell_of_value (Cell n) = n

pub in_named : (n : ℕ) (vs : List Value) → IsIn (Cell n) vs → IsIn n (cells_named vs)
in_named n [] i = absurd i
in_named n (Null ∷ vs) (inl e) = absurd (true≢false (ap is_cell e))
in_named n (Null ∷ vs) (inr i) = in_named n vs i
in_named n (Uninit ∷ vs) (inl e) = absurd (true≢false (ap is_cell e))
in_named n (Uninit ∷ vs) (inr i) = in_named n vs i
in_named n (Dangling ∷ vs) (inl e) = absurd (true≢false (ap is_cell e))
in_named n (Dangling ∷ vs) (inr i) = in_named n vs i
in_named n (Cell m ∷ vs) (inl e) = inl (ap cell_of_value e)
in_named n (Cell m ∷ vs) (inr i) = inr (in_named n vs i)

pub reached_ends : (from : List Value) (facts : List Fact) (n : ℕ) → Reaches from facts n
    → IsIn n (cells_named from) ⊎ IsIn n (cells_named (map fact_value facts))
reached_ends from facts n (named i) = inl (in_named n from i)
reached_ends from facts n (through m f r i) =
    inr (in_named n (map fact_value facts) (in_map fact_value (Points m f (Cell n)) facts i))
