-- The cells that a step makes.
use Rattle.std.specs.Prelude.{ℕ, Option, None}
use Rattle.c_types.specs.declared.program.Act.{Act}
use Rattle.c_types.specs.declared.program.Act.TheVariants.{SetPtr, SetData, Free, Error, Halt, Return, Leave, Break}
use Rattle.c_types.specs.declared.program.Act.TheVariants.{Continue}
use Rattle.c_acts.specs.Making.{made_from}
use Rattle.c_machine.specs.declared.items.Front.{Front}
use Rattle.c_machine.specs.declared.items.Front.TheVariants.{Shut, Asked, Act as FrontAct, Test as FrontTest, Truth}
use Rattle.c_machine.specs.declared.items.Front.TheVariants.{Close as FrontClose, Enter as FrontEnter}
use Rattle.c_machine.specs.declared.items.Front.TheVariants.{Leave as FrontLeave, Exit as FrontExit, Nothing}

-- the struct of the cell that an act, or what stands in front, makes
abbrev pub made_by : Act → Option ℕ
made_by (SetPtr to from) = made_from from
made_by (SetData to from) = None
made_by (Free p) = None
made_by Error = None
made_by Halt = None
made_by (Return operand) = None
made_by (Leave f value) = None
made_by Break = None
made_by Continue = None

abbrev pub made_at : Front → Option ℕ
made_at Shut = None
made_at (Asked c sides) = None
made_at (FrontAct a m) = made_by a.now
made_at (FrontTest a m sides) = None
made_at (Truth sides) = None
made_at (FrontClose ps ds m) = None
made_at (FrontEnter g ws m) = None
made_at (FrontLeave g a m) = None
made_at (FrontExit g d m) = None
made_at Nothing = None
