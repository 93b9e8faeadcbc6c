-- The component of a new cell.
use Rattle.std.specs.Prelude.{ℕ, zero, suc, List, [], ◌∷◌, ◌++◌, length, replicate, slice_set}
use Rattle.fore_base.specs.Shapes.{targets_of, datums_of}
use Rattle.fore_base.specs.declared.shape.Shape.{Shape}
use Rattle.fore_base.specs.declared.store.Datum.TheVariants.{Undefined}
use Rattle.ta_core.specs.Auto.{Automaton}
use Rattle.ta_core.specs.declared.auto.Rule.{Rule}
use Rattle.ta_core.specs.declared.symbol.Slot.{Slot}
use Rattle.ta_core.specs.declared.symbol.Slot.TheVariants.{Field}
use Rattle.ta_core.specs.declared.symbol.Symbol.{Symbol}
use Rattle.ta_core.specs.declared.symbol.Symbol.TheVariants.{Uninit, Cell}
use Rattle.fa_core.specs.declared.forest.Forest.{Forest}
use Rattle.fa_core.specs.declared.forest.Target.TheVariants.{At}

-- the slots of the fields from k on, n of them
abbrev pub field_slots : ℕ → ℕ → List Slot
field_slots k zero = []
field_slots k (suc n) = Field k ∷ field_slots (suc k) n

-- a cell of the struct with undefined data, whose slots are its fields
abbrev pub blank_symbol : List Shape → ℕ → Symbol
blank_symbol hs shape = Cell shape (replicate (datums_of hs shape) Undefined)
    (field_slots 0 (length (targets_of hs shape)))

-- the rule of the cell, each child of which is at state 1
abbrev pub blank_rule : List Shape → ℕ → Rule
blank_rule hs shape = record
    { state = 0; symbol = blank_symbol hs shape; children = replicate (length (targets_of hs shape)) 1 }

-- an uninitialised pointer, at state 1
abbrev pub uninit_rule : Rule
uninit_rule = record { state = 1; symbol = Uninit; children = [] }

-- the automaton of the cell that was just made
abbrev pub blank : List Shape → ℕ → Automaton
blank hs shape = record { states = 2; roots = 0 ∷ []; rules = blank_rule hs shape ∷ uninit_rule ∷ [] }

-- the forest with this component as its last, at which variable `to` is
abbrev pub newed : List Shape → Forest → ℕ → ℕ → Forest
newed hs F to shape = record F
    { autos = F.autos ++ blank hs shape ∷ []; vars = slice_set F.vars to (At (length F.autos)) }
