-- Quiet edges: those that change no pointer and split no cell.
use Rattle.std.specs.Prelude.{Bool, true, false, [], ◌∷◌}
use Rattle.c_cfg.specs.declared.graph.Const.TheVariants.{Null as ConstNull, Known as ConstKnown}
use Rattle.c_cfg.specs.declared.graph.Instr.{Instr}
use Rattle.c_cfg.specs.declared.graph.Instr.TheVariants.{CopyPtr, LoadPtr, StorePtr, StoreConst, New, Free, Kill}
use Rattle.c_cfg.specs.declared.graph.Instr.TheVariants.{CopyData, LoadData, StoreData, TestPtr, TestData, Choose, Stop}

-- a Kill is quiet where no pointer variable dies, and a StoreConst where it stores a number
abbrev pub is_quiet : Instr → Bool
is_quiet (CopyPtr to from) = false
is_quiet (LoadPtr to b f) = false
is_quiet (StorePtr b f from) = false
is_quiet (StoreConst b f ConstNull) = false
is_quiet (StoreConst b f (ConstKnown k)) = true
is_quiet (New to shape) = false
is_quiet (Free b) = false
is_quiet (Kill [] datums) = true
is_quiet (Kill (x ∷ xs) datums) = false
is_quiet (CopyData to from) = true
is_quiet (LoadData to b f) = true
is_quiet (StoreData b f from) = true
is_quiet (TestPtr left right equal) = true
is_quiet (TestData left right equal) = true
is_quiet (Choose to) = true
is_quiet (Stop error) = false
