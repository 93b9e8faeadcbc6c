-- The edges of an act, with what dies where the round of its loop ends.
use Rattle.std.specs.Prelude.{ℕ, List, [], ◌∷◌, Option, Some, None, slice_get, false}
use Rattle.c_types.specs.declared.program.Act.{Act}
use Rattle.c_types.specs.declared.program.Act.TheVariants.{SetPtr, SetData, Free as FreeAct, Error, Halt, Return, Break}
use Rattle.c_types.specs.declared.program.Act.TheVariants.{Continue, Leave as LeaveAct}
use Rattle.c_types.specs.declared.program.Arg.{Arg}
use Rattle.c_types.specs.declared.program.Func.{Func}
use Rattle.c_types.specs.Control.{Done}
use Rattle.c_cfg.specs.declared.graph.Instr.TheVariants.{Kill, Stop}
use Rattle.c_cfg.specs.declared.link.Link.{Link}
use Rattle.c_cfg.specs.declared.link.Link.TheVariants.{One}
use Rattle.c_cfg.specs.Links.{act_row, leave_row}

-- a `return` of a function, with what it takes from it; one of a function that is not there ends the run
abbrev pub return_of : ℕ → ℕ → Option Func → Option Arg → List Link
return_of nv nd None value = One (Stop false) ∷ []
return_of nv nd (Some g) value = leave_row nv nd g.result g.locals value

-- Of a program with these functions besides `main`, and with nv pointer and nd data variables; where the round ends the
-- variables ps and ds die.
abbrev pub links_of : List Func → ℕ → ℕ → List ℕ → List ℕ → Act → List Link
links_of funcs nv nd ps ds (SetPtr to from) = act_row nv nd (SetPtr to from) Done
links_of funcs nv nd ps ds (SetData to from) = act_row nv nd (SetData to from) Done
links_of funcs nv nd ps ds (FreeAct p) = act_row nv nd (FreeAct p) Done
links_of funcs nv nd ps ds Error = act_row nv nd Error Done
links_of funcs nv nd ps ds Halt = act_row nv nd Halt Done
links_of funcs nv nd ps ds (Return operand) = act_row nv nd (Return operand) Done
links_of funcs nv nd ps ds (LeaveAct f value) = return_of nv nd (slice_get funcs f) value
links_of funcs nv nd ps ds Break = One (Kill ps ds) ∷ []
links_of funcs nv nd ps ds Continue = One (Kill ps ds) ∷ []
