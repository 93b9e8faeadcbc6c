-- Which pointer fields an edge needs, and in which order they are opened.
use Rattle.std.specs.Prelude.{◌≡◌, ℕ, Some}
use Rattle.c_cfg.specs.declared.graph.Const.{Const}
use Rattle.c_cfg.specs.declared.graph.Const.TheVariants.{Null as ConstNull, Known as ConstKnown}
use Rattle.c_cfg.specs.declared.graph.Instr.{Instr}
use Rattle.c_cfg.specs.declared.graph.Instr.TheVariants.{CopyPtr, LoadPtr, StorePtr, StoreConst, New, Free, Kill}
use Rattle.c_cfg.specs.declared.graph.Instr.TheVariants.{CopyData, LoadData, StoreData, TestPtr, TestData, Choose, Stop}
use Rattle.sym_core.specs.Kept.{base_of, Needs}
use Rattle.sym_step.specs.declared.needs.Needed.{Needed}
use Rattle.sym_step.specs.declared.needs.Needed.TheVariants.{Nothing, Field, Cell}

-- what storing a constant into a field needs
abbrev pub needs_to_store : ℕ → ℕ → Const → Needed
needs_to_store b f ConstNull = Field b f
needs_to_store b f (ConstKnown k) = Nothing

-- what the edge needs: no pointer field, one of the cell of a variable, or all of them
abbrev pub needs_of : Instr → Needed
needs_of (CopyPtr to from) = Nothing
needs_of (LoadPtr to b f) = Field b f
needs_of (StorePtr b f from) = Field b f
needs_of (StoreConst b f value) = needs_to_store b f value
needs_of (New to shape) = Nothing
needs_of (Free b) = Cell b
needs_of (Kill ptrs datums) = Nothing
needs_of (CopyData to from) = Nothing
needs_of (LoadData to b f) = Nothing
needs_of (StoreData b f from) = Nothing
needs_of (TestPtr left right equal) = Nothing
needs_of (TestData left right equal) = Nothing
needs_of (Choose to) = Nothing
needs_of (Stop error) = Nothing

-- this is all that the edge needs
abbrev pub AreNeeds : Instr → Needed → Type 0
AreNeeds i Nothing = (b f : ℕ) → base_of i ≡ Some b → Needs i f → ⊥
AreNeeds i (Field b f) = (c g : ℕ) → base_of i ≡ Some c → Needs i g → (c ≡ b) × (g ≡ f)
AreNeeds i (Cell b) = (i ≡ Free b) × ((c : ℕ) → base_of i ≡ Some c → c ≡ b)

-- the one field is needed
abbrev pub HasNeeds : Instr → Needed → Type 0
HasNeeds i Nothing = Unit {0}
HasNeeds i (Field b f) = (base_of i ≡ Some b) × Needs i f
HasNeeds i (Cell b) = Unit {0}
