-- The cell of a port, and one port as it is made.
use Rattle.std.specs.Prelude.{◌≡◌, ℕ, List}
use Rattle.fore_base.specs.Lists.{Every, IsIn}
use Rattle.ta_core.specs.declared.symbol.Slot.TheVariants.{Field}
use Rattle.ta_core.specs.declared.symbol.Symbol.{Symbol}
use Rattle.ta_core.specs.declared.symbol.Symbol.TheVariants.{Null, Uninit, Dangling, Ref, Cell}
use Rattle.fa_part.specs.declared.ports.Port.{Port}

-- the port stands at root r, where the box has this struct, with these fields
pub record IsPortFor (r shape : ℕ) (fs : List ℕ) (p : Port) : Type 0 where
  pub root : p.root ≡ r
  pub shape_is : p.shape ≡ shape
  pub fields : p.fields ≡ fs

-- the symbol is a cell of this struct with a slot for each of the fields
abbrev pub IsPortCell : ℕ → List ℕ → Symbol → Type 0
IsPortCell shape fs Null = ⊥
IsPortCell shape fs Uninit = ⊥
IsPortCell shape fs Dangling = ⊥
IsPortCell shape fs (Ref r) = ⊥
IsPortCell shape fs (Cell s datums slots) = (s ≡ shape) × Every (λ f. IsIn (Field f) slots) fs
