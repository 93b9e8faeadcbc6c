-- The parameters of a function that is not active hold no cell: a run begins so, and each step keeps that.
use Rattle.std.proofs.Common.{◌≡◌, inl, inr, ℕ, Bool, true, false, true≢false, Option, Some, None, Result, Ok, Err}
use Rattle.std.proofs.Common.{List, ◌++◌, refl, sym, ◌∙◌, subst}
use Rattle.fore_base.specs.declared.fault.Fault.{Fault}
use Rattle.fore_base.specs.declared.store.Store.{Store}
use Rattle.fore_base.specs.Lists.{IsIn}
use Rattle.fore_base.specs.Stores.{kill}
use Rattle.fore_base.proofs.ListLemmas.{in_left, in_right, in_append, place_of}
use Rattle.c_types.specs.declared.mode.MallocMode.{MallocMode}
use Rattle.c_types.specs.declared.program.VarRef.{VarRef}
use Rattle.c_types.specs.declared.program.VarRef.TheVariants.{Ptr as PtrVar}
use Rattle.c_types.specs.declared.program.Arg.{Arg}
use Rattle.c_types.specs.declared.program.Dest.{Dest}
use Rattle.c_types.specs.declared.program.Dest.TheVariants.{Ptr as PtrDest, Data as DataDest}
use Rattle.c_types.specs.declared.program.Act.{Act}
use Rattle.c_types.specs.declared.program.Act.TheVariants.{SetPtr, SetData, Free, Return, Break, Continue}
use Rattle.c_types.specs.Program.{Program, is_typed}
use Rattle.c_types.specs.Bodies.{is_among}
use Rattle.c_types.specs.Control.{Items, Done, Do, Close, If, Loop, Again, DoLoop, DoAgain, Ask}
use Rattle.c_types.specs.Control.{Enter, Leave, Exit, after_again, from_again, from_exit, closed_ptrs}
use Rattle.c_types.specs.Control.{closed_datums}
use Rattle.c_types.specs.Steps.{assign, assign_data, free_path, look_at, enter, leave, exit, atom_of}
use Rattle.c_types.specs.Steps.{settled, act_turn, turn_of}
use Rattle.c_types.specs.Fits.{EnterFits, LeaveFits}
use Rattle.c_types.proofs.Fitting.{Gives}
use Rattle.c_types.proofs.StepLaws.{TurnGives, settle_gives, finished_gives, test_gives}
use Rattle.c_cfg.proofs.Ranged.{Ranged, then_ranged, after_ranged, from_ranged, exit_ranged}
use Rattle.c_cfg.proofs.Calls.OpenCalls.{open_vars, exit_open}
use Rattle.c_cfg.proofs.Calls.Params.{IsParam, in_among, among_in, result_foreign}
use Rattle.c_cfg.proofs.Calls.Homes.{ActHomed, DestHomed, Homed}
use Rattle.c_cfg.proofs.Calls.Safe.{Safe, kill_safe, assign_safe, assign_data_safe, free_safe, enter_safe, leave_safe}
use Rattle.c_cfg.proofs.Calls.Safe.{IsTarget, exit_safe, exit_dead}
use Rattle.c_cfg.proofs.Agree.CallRows.{AreFree}

module _ (p : Program) (typed : is_typed p ≡ true) where
  -- where these are open, a parameter that is none of them holds no cell
  abbrev pub Idle : List VarRef → Store → Type 0
  Idle us s = (x : ℕ) → IsParam p.funcs x → (IsIn (PtrVar x) us → ⊥) → Safe x s

  -- with what a run goes on after the step of a place
  abbrev pub Kept : Items → Store → Type 0
  Kept js t = Ranged p js × Idle (open_vars 0 js) t

  -- a step goes on with these items, in a store in which each parameter that is not open is safe
  goes_on : (us : List VarRef) (r : Result Store Fault) (js : Items) → Ranged p js → open_vars 0 js ≡ us
      → ((x : ℕ) → IsParam p.funcs x → (IsIn (PtrVar x) us → ⊥) → Gives (Safe x) r) → TurnGives Kept (settled r js)
  goes_on us (Ok t) js ranged opens safe =
      settle_gives Kept t js (ranged, subst (λ vs. Idle vs t) (sym opens) safe)
  goes_on us (Err k) js ranged opens safe = tt

  killed : (us : List VarRef) (ps ds : List ℕ) (s : Store) → Idle us s → Idle us (kill ps ds s)
  killed us ps ds s idle = λ x param absent. kill_safe x ps ds s (idle x param absent)

  act_keeps : (mode : MallocMode) (a : Act) (is : Items) (s : Store) (c : ℕ) → Ranged p is → ActHomed p a is
      → Idle (open_vars 0 is) s → TurnGives Kept (act_turn p.shapes.structs mode a is s c)
  act_keeps mode (SetPtr to from) is s c ranged homed idle =
      goes_on (open_vars 0 is) (assign p.shapes.structs mode s to from c) is ranged refl
      (λ x param absent. assign_safe x p.shapes.structs mode s to from c
      (λ same. absent
      (subst (λ y. IsIn (PtrVar y) (open_vars 0 is)) (sym same) (homed (subst (IsParam p.funcs) same param))))
      (idle x param absent))
  act_keeps mode (SetData to from) is s c ranged homed idle =
      goes_on (open_vars 0 is) (assign_data s to from c) is ranged refl
      (λ x param absent. assign_data_safe x s to from c (idle x param absent))
  act_keeps mode (Free q) is s c ranged homed idle =
      goes_on (open_vars 0 is) (free_path s q) is ranged refl
      (λ x param absent. free_safe x s q (idle x param absent))
  act_keeps mode (Return operand) is s c ranged homed idle = finished_gives Kept (look_at s operand)
  act_keeps mode Break is s c ranged homed idle =
      settle_gives Kept (kill (closed_ptrs is) (closed_datums is) s) (after_again is) (
        after_ranged p is ranged,
        subst (λ us. Idle us (kill (closed_ptrs is) (closed_datums is) s)) (sym homed)
            (killed (open_vars 0 is) (closed_ptrs is) (closed_datums is) s idle),
      )
  act_keeps mode Continue is s c ranged homed idle =
      settle_gives Kept (kill (closed_ptrs is) (closed_datums is) s) (from_again is) (
        from_ranged p is ranged,
        subst (λ us. Idle us (kill (closed_ptrs is) (closed_datums is) s)) (sym homed)
            (killed (open_vars 0 is) (closed_ptrs is) (closed_datums is) s idle),
      )
  act_keeps mode _ is s c ranged homed idle = tt

  -- what is given to the result is no parameter
  leave_other : (v : Option VarRef) (vs : List VarRef) (a : Option Arg) → LeaveFits p v vs a → (x : ℕ)
      → IsParam p.funcs x → v ≡ Some (PtrVar x) → ⊥
  leave_other v vs a fits x param e = result_foreign p typed fits.func x fits.is_there (sym fits.result_is ∙ e) param

  -- what the result is assigned to is open, if it is a parameter
  target_open : (d : Option Dest) (is : Items) (x : ℕ) → DestHomed p d is → IsParam p.funcs x → IsTarget x d
      → IsIn (PtrVar x) (open_vars 0 is)
  target_open None is x homed param this = absurd this
  target_open (Some (PtrDest q)) is x homed param this =
      subst (λ y. IsIn (PtrVar y) (open_vars 0 is)) (sym this) (homed (subst (IsParam p.funcs) this param))
  target_open (Some (DataDest q)) is x homed param this = absurd this

  exit_keeps : (v : Option VarRef) (vs : List VarRef) (d : Option Dest) (is : Items) (s : Store) → DestHomed p d is
      → Idle (vs ++ open_vars 0 is) s → (x : ℕ) → IsParam p.funcs x → (IsIn (PtrVar x) (open_vars 0 is) → ⊥)
      → Gives (Safe x) (exit s v vs d)
  exit_keeps v vs d is s homed idle x param absent = by (is_among vs (PtrVar x)) refl
    where
      by : (b : Bool) → is_among vs (PtrVar x) ≡ b → Gives (Safe x) (exit s v vs d)
      by true among = exit_dead x s v vs d (among_in vs (PtrVar x) among)
      by false among = exit_safe x s v vs d (λ this. absent (target_open d is x homed param this))
          (idle x param (λ i. elim (in_append (PtrVar x) vs (open_vars 0 is) i) [
            | inl j ↦ true≢false (sym (in_among vs (PtrVar x) j) ∙ among)
            | inr j ↦ absent j
          ]))

  pub step_keeps_idle : (mode : MallocMode) (o : Items) (s : Store) (c : ℕ) → Ranged p o → Homed p o
      → Idle (open_vars 0 o) s → TurnGives Kept (turn_of p.shapes.structs mode o s c)
  step_keeps_idle mode (Do a m is) s c h k idle = act_keeps mode a is s c h.1 k idle
  step_keeps_idle mode (Close ps ds m is) s c h k idle =
      settle_gives Kept (kill ps ds s) is (h.2, killed (open_vars 0 is) ps ds s idle)
  step_keeps_idle mode (If (Ask a m) x y is) s c h k idle =
      test_gives Kept (atom_of a s c) x y is s
      (then_ranged p x is h.1 h.3, subst (λ us. Idle us s) (sym (h.4 0 is)) idle)
      (then_ranged p y is h.2 h.3, subst (λ us. Idle us s) (sym (h.5 0 is)) idle)
  step_keeps_idle mode (Enter vs ws m is) s c h k idle =
      goes_on (vs ++ open_vars 1 is) (enter s vs ws) is h.1 k.opens
      (λ x param absent. enter_safe x s vs ws (λ i. absent (in_left (PtrVar x) vs (open_vars 1 is) i))
      (idle x param (λ i. absent (in_right (PtrVar x) vs (open_vars 1 is) i))))
  step_keeps_idle mode (Leave v vs a m is) s c h k idle =
      goes_on (open_vars 0 is) (leave s v vs a) (from_exit is) (exit_ranged p is h.1) (exit_open 0 is)
      (λ x param absent. leave_safe x s v vs a (leave_other v vs a h.0 x param) (idle x param absent))
  step_keeps_idle mode (Exit v vs d m is) s c h k idle =
      goes_on (open_vars 0 is) (exit s v vs d) is h.1 refl (exit_keeps v vs d is s k idle)
  step_keeps_idle mode _ s c h k idle = tt

  -- where a call may begin, its parameters hold no cell

  abbrev pub FreeAt : Items → Store → Type 0
  FreeAt Done s = Unit {0}
  FreeAt (Do a m is) s = Unit {0}
  FreeAt (Close ps ds m is) s = Unit {0}
  FreeAt (If c x y is) s = Unit {0}
  FreeAt (Loop c n b is) s = Unit {0}
  FreeAt (Again c n b is) s = Unit {0}
  FreeAt (DoLoop c b is) s = Unit {0}
  FreeAt (DoAgain c b is) s = Unit {0}
  FreeAt (Enter vs ws m is) s = AreFree s vs
  FreeAt (Leave v vs a m is) s = Unit {0}
  FreeAt (Exit v vs d m is) s = Unit {0}

  own_param : (vs : List VarRef) (ws : List Arg) → EnterFits p vs ws → (x : ℕ) → IsIn (PtrVar x) vs
      → IsParam p.funcs x
  own_param vs ws fits x i =
      let at = place_of p.funcs fits.func fits.is_there in
      record {
        number = at.0;
        func = fits.func;
        is_there = at.1;
        is_param = subst (IsIn (PtrVar x)) fits.params_are i;
      }

  pub idle_free : (o : Items) (s : Store) → Ranged p o → Homed p o → Idle (open_vars 0 o) s → FreeAt o s
  idle_free (Enter vs ws m is) s h k idle = λ x i. idle x (own_param vs ws h.0 x i) (k.apart x i)
  idle_free _ s h k idle = tt
