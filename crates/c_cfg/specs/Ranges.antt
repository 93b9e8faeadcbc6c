-- Edges whose numbers are in range.
use Rattle.std.specs.Prelude.{◌≤◌, ◌<◌, ℕ, List, length, Option, Some, None}
use Rattle.fore_base.specs.declared.limits.TheConstants.{DATUM}
use Rattle.fore_base.specs.declared.shape.Shape.{Shape}
use Rattle.fore_base.specs.Lists.{Every}
use Rattle.fore_base.specs.Shapes.{targets_of, datums_of}
use Rattle.c_cfg.specs.declared.graph.PtrArg.{PtrArg}
use Rattle.c_cfg.specs.declared.graph.PtrArg.TheVariants.{Var as PtrVar, Null as PtrNull}
use Rattle.c_cfg.specs.declared.graph.DataArg.{DataArg}
use Rattle.c_cfg.specs.declared.graph.DataArg.TheVariants.{Var as ArgVar, Known as ArgKnown}
use Rattle.c_cfg.specs.declared.graph.Const.{Const}
use Rattle.c_cfg.specs.declared.graph.Const.TheVariants.{Null as ConstNull, Known as ConstKnown}
use Rattle.c_cfg.specs.declared.graph.Instr.{Instr}
use Rattle.c_cfg.specs.declared.graph.Instr.TheVariants.{CopyPtr, LoadPtr, StorePtr, StoreConst, New, Free, Kill}
use Rattle.c_cfg.specs.declared.graph.Instr.TheVariants.{CopyData, LoadData, StoreData, TestPtr, TestData, Choose, Stop}
use Rattle.c_cfg.specs.declared.graph.Edge.{Edge}
use Rattle.c_cfg.specs.Graphs.{ControlGraph, HasItsChoice}

-- some struct has a pointer field of this number
pub record IsPtrField (shapes : List Shape) (field : ℕ) : Type 0 where
  pub shape : ℕ
  pub is_there : field < length (targets_of shapes shape)

-- some struct has a data field of this number
pub record IsDataField (shapes : List Shape) (field : ℕ) : Type 0 where
  pub shape : ℕ
  pub is_there : field < datums_of shapes shape

-- a choice is 0 or 1
abbrev pub ChoiceFits : Option ℕ → Type 0
ChoiceFits None = Unit {0}
ChoiceFits (Some x) = x < 2

-- of so many pointer and data variables, and of these structs
module _ (ptrs datums : ℕ) (shapes : List Shape) where
  abbrev pub PtrArgFits : PtrArg → Type 0
  PtrArgFits (PtrVar x) = x < ptrs
  PtrArgFits PtrNull = Unit {0}

  abbrev pub DataArgFits : DataArg → Type 0
  DataArgFits (ArgVar x) = x < datums
  DataArgFits (ArgKnown k) = k ≤ DATUM

  -- the constant may stand in a field of this number
  abbrev pub ConstFits : ℕ → Const → Type 0
  ConstFits field ConstNull = IsPtrField shapes field
  ConstFits field (ConstKnown k) = IsDataField shapes field × (k ≤ DATUM)

  abbrev pub TargetFits : Option ℕ → Type 0
  TargetFits None = Unit {0}
  TargetFits (Some x) = x < datums

  abbrev pub InstrFits : Instr → Type 0
  InstrFits (CopyPtr to from) = (to < ptrs) × PtrArgFits from
  InstrFits (LoadPtr to from field) = (to < ptrs) × (from < ptrs) × IsPtrField shapes field
  InstrFits (StorePtr to field from) = (to < ptrs) × IsPtrField shapes field × (from < ptrs)
  InstrFits (StoreConst to field value) = (to < ptrs) × ConstFits field value
  InstrFits (New to shape) = (to < ptrs) × (shape < length shapes)
  InstrFits (Free from) = from < ptrs
  InstrFits (Kill xs ys) = Every (λ x. x < ptrs) xs × Every (λ y. y < datums) ys
  InstrFits (CopyData to from) = (to < datums) × DataArgFits from
  InstrFits (LoadData to from field) = (to < datums) × (from < ptrs) × IsDataField shapes field
  InstrFits (StoreData to field from) = (to < ptrs) × IsDataField shapes field × (from < datums)
  InstrFits (TestPtr left right equal) = PtrArgFits left × PtrArgFits right
  InstrFits (TestData left right equal) = DataArgFits left × DataArgFits right
  InstrFits (Choose to) = TargetFits to
  InstrFits (Stop error) = Unit {0}

  -- each number of the edge but its locations is in range, and it has a choice where its instruction wants one
  pub record EdgeFits (e : Edge) : Type 0 where
    pub instr : InstrFits e.instr
    pub has_its_choice : HasItsChoice e
    pub choice : ChoiceFits e.choice

-- the edge leads from a location to a location, and its numbers are those of the graph
pub record IsEdgeOf (g : ControlGraph) (e : Edge) : Type 0 where
  pub from : e.from < g.locations
  pub to : e.to < g.locations
  pub fits : EdgeFits g.ptrs g.datums g.shapes.structs e
