-- What the targets and data of a forest say of an edge, for all members alike.
use Rattle.std.specs.Prelude.{ℕ, List, nat_eq, slice_index_or, Option, Some, None, Result, Ok, Err, Bool, true, false}
use Rattle.fore_base.specs.declared.fault.Fault.{Fault}
use Rattle.fore_base.specs.declared.fault.Fault.TheVariants.{NullDeref, UninitDeref, DanglingDeref, InvalidFree}
use Rattle.fore_base.specs.declared.fault.Fault.TheVariants.{DoubleFree, IndetTest}
use Rattle.fore_base.specs.declared.store.Datum.{Datum}
use Rattle.fore_base.specs.declared.store.Datum.TheVariants.{Undefined, Known}
use Rattle.fa_core.specs.declared.forest.Forest.{Forest}
use Rattle.fa_core.specs.declared.forest.Target.{Target}
use Rattle.fa_core.specs.declared.forest.Target.TheVariants.{Null, Uninit, Dangling, At}
use Rattle.c_cfg.specs.declared.graph.DataArg.{DataArg}
use Rattle.c_cfg.specs.declared.graph.DataArg.TheVariants.{Var as ArgVar, Known as ArgKnown}
use Rattle.c_cfg.specs.declared.graph.PtrArg.{PtrArg}
use Rattle.c_cfg.specs.declared.graph.PtrArg.TheVariants.{Var as PtrVar, Null as PtrNull}
use Rattle.sym_core.specs.Explicit.{target_at}

-- Operands.

-- what the data variable x is
abbrev pub datum_at : Forest → ℕ → Datum
datum_at F x = slice_index_or F.data_vars x Undefined

abbrev pub target_of_arg : Forest → PtrArg → Target
target_of_arg F (PtrVar x) = target_at F x
target_of_arg F PtrNull = Null

abbrev pub datum_of_arg : Forest → DataArg → Datum
datum_of_arg F (ArgVar x) = datum_at F x
datum_of_arg F (ArgKnown k) = Known k

-- the forest with these targets and data
abbrev pub with_vars : Forest → List Target → List Datum → Forest
with_vars F vs ds = record F { vars = vs; data_vars = ds }

-- Faults.

-- the root to which a pointer leads, or the fault of following it (6.5.3.2)
abbrev pub root_of : Target → Result ℕ Fault
root_of Null = Err NullDeref
root_of Uninit = Err UninitDeref
root_of Dangling = Err DanglingDeref
root_of (At r) = Ok r

-- the root that `free` frees, None for a null pointer, or the fault (7.22.3.3)
abbrev pub freed_root : Target → Result (Option ℕ) Fault
freed_root Null = Ok None
freed_root Uninit = Err InvalidFree
freed_root Dangling = Err DoubleFree
freed_root (At r) = Ok (Some r)

-- whether two targets are one value in each member: different roots are different cells; what is indeterminate cannot
-- be tested (6.2.4, 6.7.9)
abbrev pub same_targets : Target → Target → Result Bool Fault
same_targets Uninit u = Err IndetTest
same_targets Dangling u = Err IndetTest
same_targets Null Uninit = Err IndetTest
same_targets Null Dangling = Err IndetTest
same_targets Null Null = Ok true
same_targets Null (At k) = Ok false
same_targets (At i) Uninit = Err IndetTest
same_targets (At i) Dangling = Err IndetTest
same_targets (At i) Null = Ok false
same_targets (At i) (At k) = Ok (nat_eq i k)
