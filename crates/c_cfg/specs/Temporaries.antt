-- What a graph's temporaries hold between the steps of its program.
use Rattle.std.specs.Prelude.{◌≡◌, ◌+◌, ℕ, ◌∷◌, length, Some, slice_get}
use Rattle.fore_base.specs.declared.store.Value.TheVariants.{Uninit}
use Rattle.fore_base.specs.declared.store.Datum.TheVariants.{Undefined}
use Rattle.fore_base.specs.declared.store.Store.{Store}
use Rattle.fore_base.specs.Lists.{IsIn}
use Rattle.c_types.specs.declared.mode.MallocMode.{MallocMode}
use Rattle.c_types.specs.Program.{Program}
use Rattle.c_types.specs.Control.{Items, Done}
use Rattle.c_cfg.specs.Graphs.{ControlGraph}
use Rattle.c_cfg.specs.Places.{places}
use Rattle.c_cfg.specs.Lowering.{LowerOf}
use Rattle.c_cfg.specs.Visits.{Visits}

-- of a program with so many pointer and data variables, behind which the graph has two temporaries each: they are
-- there, and hold nothing
pub record TemporariesUnset (ptrs datums : ℕ) (s : Store) : Type 0 where
  pub first_ptr : slice_get s.vars ptrs ≡ Some Uninit
  pub second_ptr : slice_get s.vars (ptrs + 1) ≡ Some Uninit
  pub first_datum : slice_get s.data_vars datums ≡ Some Undefined
  pub second_datum : slice_get s.data_vars (datums + 1) ≡ Some Undefined

-- with each store with which a run comes to the exit, or to a location at which the step of one of the program's places
-- begins
abbrev pub UnsetBetweenSteps : (p : Program) (mode : MallocMode) (g : ControlGraph) → LowerOf p mode g → Type 0
UnsetBetweenSteps p mode g low = (place : Items) → IsIn place (Done ∷ places low.items Done) → (s : Store)
    → Visits g (low.at place) s → TemporariesUnset (length p.vars) (length p.data_vars) s
