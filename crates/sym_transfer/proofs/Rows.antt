-- Worked values: what targets and data say of an edge.
use Rattle.std.proofs.Common.{◌≡◌, [], ◌∷◌, true, false, Some, None, Ok, Err, refl}
use Rattle.fore_base.specs.declared.fault.Fault.TheVariants.{NullDeref, UninitDeref, DanglingDeref, InvalidFree}
use Rattle.fore_base.specs.declared.fault.Fault.TheVariants.{DoubleFree, IndetTest}
use Rattle.fore_base.specs.declared.store.Datum.TheVariants.{Undefined, Known}
use Rattle.fa_core.specs.declared.forest.Forest.{Forest}
use Rattle.fa_core.specs.declared.forest.Target.TheVariants.{Null, Uninit, Dangling, At}
use Rattle.c_cfg.specs.declared.graph.DataArg.TheVariants.{Var as ArgVar, Known as ArgKnown}
use Rattle.c_cfg.specs.declared.graph.PtrArg.TheVariants.{Var as PtrVar, Null as PtrNull}
use Rattle.sym_transfer.specs.inner.Targets.{datum_at, target_of_arg, datum_of_arg, with_vars, root_of, freed_root}
use Rattle.sym_transfer.specs.inner.Targets.{same_targets}

-- two pointer variables, one at root 3 and one dangling, and a data variable
abbrev some : Forest
some = record { autos = []; vars = At 3 ∷ Dangling ∷ []; data_vars = Known 7 ∷ [] }

-- Operands.

var_operand : target_of_arg some (PtrVar 1) ≡ Dangling
var_operand = refl

null_operand : target_of_arg some PtrNull ≡ Null
null_operand = refl

data_operand : datum_of_arg some (ArgVar 0) ≡ Known 7
data_operand = refl

known_operand : datum_of_arg some (ArgKnown 2) ≡ Known 2
known_operand = refl

-- a variable that is not there is undefined
no_datum : datum_at some 1 ≡ Undefined
no_datum = refl

other_vars : with_vars some (Null ∷ []) [] ≡ record { autos = []; vars = Null ∷ []; data_vars = [] }
other_vars = refl

-- Following a pointer.

follows_root : root_of (At 3) ≡ Ok 3
follows_root = refl

follows_null : root_of Null ≡ Err NullDeref
follows_null = refl

follows_uninit : root_of Uninit ≡ Err UninitDeref
follows_uninit = refl

follows_dangling : root_of Dangling ≡ Err DanglingDeref
follows_dangling = refl

-- Freeing.

frees_a_root : freed_root (At 3) ≡ Ok (Some 3)
frees_a_root = refl

-- a null pointer may be freed
frees_null : freed_root Null ≡ Ok None
frees_null = refl

frees_uninit : freed_root Uninit ≡ Err InvalidFree
frees_uninit = refl

frees_twice : freed_root Dangling ≡ Err DoubleFree
frees_twice = refl

-- Comparing.

same_root : same_targets (At 3) (At 3) ≡ Ok true
same_root = refl

other_root : same_targets (At 3) (At 4) ≡ Ok false
other_root = refl

both_null : same_targets Null Null ≡ Ok true
both_null = refl

null_first : same_targets Null (At 0) ≡ Ok false
null_first = refl

null_second : same_targets (At 0) Null ≡ Ok false
null_second = refl

-- an indeterminate operand on either side, also beside itself
uninit_first : same_targets Uninit Uninit ≡ Err IndetTest
uninit_first = refl

dangling_first : same_targets Dangling Null ≡ Err IndetTest
dangling_first = refl

null_uninit : same_targets Null Uninit ≡ Err IndetTest
null_uninit = refl

null_dangling : same_targets Null Dangling ≡ Err IndetTest
null_dangling = refl

root_uninit : same_targets (At 3) Uninit ≡ Err IndetTest
root_uninit = refl

root_dangling : same_targets (At 3) Dangling ≡ Err IndetTest
root_dangling = refl
