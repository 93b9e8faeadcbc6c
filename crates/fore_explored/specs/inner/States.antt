-- Which nodes are printed with a program.
use Rattle.std.specs.Prelude.{◌≡◌, Some, length}
use Rattle.c_types.specs.Program.{Program}
use Rattle.fa_core.specs.Boxes.{Boxes}
use Rattle.fa_core.specs.declared.forest.Forest.{Forest}
use Rattle.fa_print.specs.Conditions.{HasVariables}
use Rattle.fix_core.specs.States.{AbstractState}

-- the forest has the program's variables, and behind them two temporaries of each kind
abbrev pub HasTemporaries : Program → Forest → Type 0
HasTemporaries p F = HasVariables p 2 (length F.vars) (length F.data_vars)

-- the state stands over the table, which has the structs of the program; its forest has the program's variables and
-- the temporaries, and so has the one before it was folded and abstracted
pub record IsStateOf (table : Boxes) (p : Program) (a : AbstractState) : Type 0 where
  pub face : a.face ≡ table.face
  pub structs : table.face.shapes ≡ p.shapes
  pub forest : HasTemporaries p a.forest
  pub middle : (M : Forest) → a.middle ≡ Some M → HasTemporaries p M
