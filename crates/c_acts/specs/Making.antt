-- Which right sides make a cell.
use Rattle.std.specs.Prelude.{ℕ, Option, Some, None}
use Rattle.c_types.specs.declared.program.PtrRhs.{PtrRhs}
use Rattle.c_types.specs.declared.program.PtrRhs.TheVariants.{Path as RhsPath, Null as RhsNull, New as RhsNew}

-- the struct of the cell that a right side makes
abbrev pub made_from : PtrRhs → Option ℕ
made_from (RhsPath p) = None
made_from RhsNull = None
made_from (RhsNew shape) = Some shape
