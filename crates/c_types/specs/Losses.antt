-- Steps that take a reference to a cell away. The leak test of any other step has the answer that it had before the
-- step.
use Rattle.std.specs.Prelude.{ℕ, List, [], ◌∷◌, length, Bool, true, false, ◌||◌, Result, Ok, Err, slice_index_or}
use Rattle.std.specs.Prelude.{Option, Some, None}
use Rattle.fore_base.specs.declared.fault.Fault.{Fault}
use Rattle.fore_base.specs.declared.store.Value.{Value}
use Rattle.fore_base.specs.declared.store.Value.TheVariants.{Uninit, Cell}
use Rattle.fore_base.specs.declared.store.Store.{Store}
use Rattle.c_types.specs.declared.program.Path.{Path}
use Rattle.c_types.specs.declared.program.PtrRhs.{PtrRhs}
use Rattle.c_types.specs.declared.program.PtrRhs.TheVariants.{Path as RhsPath, Null as RhsNull, New as RhsNew}
use Rattle.c_types.specs.declared.program.Act.{Act}
use Rattle.c_types.specs.declared.program.Act.TheVariants.{SetPtr, SetData, Free, Error, Halt, Return, Break, Continue}
use Rattle.c_types.specs.declared.program.Act.TheVariants.{Leave as LeaveAct}
use Rattle.c_types.specs.declared.program.VarRef.{VarRef}
use Rattle.c_types.specs.declared.program.Dest.{Dest}
use Rattle.c_types.specs.declared.program.Dest.TheVariants.{Ptr as PtrDest, Data as DataDest}
use Rattle.c_types.specs.Control.{Items, Done, Do, Close, If, Loop, Again, DoLoop, DoAgain, Enter, Leave, Exit}
use Rattle.c_types.specs.Control.{closed_ptrs, ptr_vars, with_result}
use Rattle.c_types.specs.Steps.{read, below}

-- the value refers to a cell
abbrev pub is_cell : Value → Bool
is_cell (Cell n) = true
is_cell _ = false

-- one of the variables refers to a cell
abbrev pub hold_cell : List Value → List ℕ → Bool
hold_cell vs [] = false
hold_cell vs (x ∷ xs) = is_cell (slice_index_or vs x Uninit) || hold_cell vs xs

-- what was read refers to a cell
abbrev pub got_cell : Result Value Fault → Bool
got_cell (Ok v) = is_cell v
got_cell (Err k) = false

-- an assignment overwrites a reference to a cell, or makes a cell
abbrev pub assign_loses : Store → Path → PtrRhs → Bool
assign_loses s to (RhsPath from) = got_cell (read s to)
assign_loses s to RhsNull = got_cell (read s to)
assign_loses s to (RhsNew shape) = true

-- an act takes a reference away: a variable or field that held a cell is overwritten or dies, or a cell is freed or
-- made
abbrev pub act_loses : Act → Items → Store → Bool
act_loses (SetPtr to from) is s = assign_loses s to from
act_loses (SetData to from) is s = false
act_loses (Free p) is s = got_cell (read s p)
act_loses Error is s = false
act_loses Halt is s = false
act_loses (Return operand) is s = hold_cell s.vars (below (length s.vars))
act_loses (LeaveAct f value) is s = false
act_loses Break is s = hold_cell s.vars (closed_ptrs is)
act_loses Continue is s = hold_cell s.vars (closed_ptrs is)

-- what the result of a call is assigned to refers to a cell
abbrev pub dest_loses : Store → Dest → Bool
dest_loses s (PtrDest p) = got_cell (read s p)
dest_loses s (DataDest p) = false

abbrev pub to_loses : Store → Option Dest → Bool
to_loses s None = false
to_loses s (Some d) = dest_loses s d

-- one of the variables, of either kind, refers to a cell
abbrev pub vars_hold : Store → List VarRef → Bool
vars_hold s vs = hold_cell s.vars (ptr_vars vs)

-- the step of an opened list does
abbrev pub loses : Items → Store → Bool
loses Done s = false
loses (Do a m is) s = act_loses a is s
loses (Close ps ds m is) s = hold_cell s.vars ps
loses (If c x y is) s = false
loses (Loop c n b is) s = false
loses (Again c n b is) s = false
loses (DoLoop c b is) s = false
loses (DoAgain c b is) s = false
loses (Enter vs ws m is) s = vars_hold s vs
loses (Leave v vs a m is) s = vars_hold s (with_result v vs)
loses (Exit v vs d m is) s = to_loses s d || vars_hold s (with_result v vs)
