-- Steps keep stores proper and fitting.
use Rattle.std.proofs.Common.{◌≡◌, ◌<◌, ℕ, Bool, true, false, is_some, Option, Some, None, Result, Ok, Err, length}
use Rattle.std.proofs.Common.{List, [], ◌∷◌, refl, sym, ap, subst, true≢false}
use Rattle.std.proofs.lemmas.Bool.{eqb-true, and_parts}
use Rattle.fore_base.specs.declared.fault.Fault.{Fault}
use Rattle.fore_base.specs.declared.store.Value.TheVariants.{Null, Cell}
use Rattle.fore_base.specs.declared.store.Datum.{Datum}
use Rattle.fore_base.specs.declared.store.Store.{Store}
use Rattle.fore_base.specs.Stores.{var_of, datum_of, set_var, set_datum, kill, store_datum, grown, freed}
use Rattle.fore_base.specs.Heap.{IsProper, leaks}
use Rattle.c_types.specs.declared.mode.MallocMode.{MallocMode}
use Rattle.c_types.specs.declared.program.Path.{Path}
use Rattle.c_types.specs.declared.program.DataPath.{DataPath}
use Rattle.c_types.specs.declared.program.DataPath.TheVariants.{Var as DataVar, Field as DataField}
use Rattle.c_types.specs.declared.program.PtrRhs.{PtrRhs}
use Rattle.c_types.specs.declared.program.PtrRhs.TheVariants.{Path as RhsPath, Null as RhsNull, New as RhsNew}
use Rattle.c_types.specs.declared.program.Act.{Act}
use Rattle.c_types.specs.declared.program.Act.TheVariants.{SetPtr, SetData, Free, Return, Break, Continue}
use Rattle.c_types.specs.declared.program.VarRef.{VarRef}
use Rattle.c_types.specs.declared.program.VarRef.TheVariants.{Ptr as PtrVar, Data as DatumVar}
use Rattle.c_types.specs.declared.program.Arg.{Arg}
use Rattle.c_types.specs.declared.program.Arg.TheVariants.{Ptr as PtrArg, Data as DataArg}
use Rattle.c_types.specs.declared.program.PtrOp.TheVariants.{Path as OpPath, Null as OpNull}
use Rattle.c_types.specs.declared.program.Dest.{Dest}
use Rattle.c_types.specs.declared.program.Dest.TheVariants.{Ptr as PtrDest, Data as DataDest}
use Rattle.c_types.specs.Program.{Program, is_target, both_targets, path_target, rhs_typed, arg_typed}
use Rattle.c_types.specs.Program.{args_typed, value_typed, dest_typed, to_typed, is_typed}
use Rattle.c_types.specs.Control.{Items, Do, Close, If, Enter, Leave, Exit, Ask}
use Rattle.c_types.specs.Control.{◌then◌, opened, after_again, from_again, from_exit, closed_ptrs}
use Rattle.c_types.specs.Control.{closed_datums, ptr_vars, datum_vars, with_result, start_of}
use Rattle.c_types.specs.Steps.{Turn, Goes, Stops, Faults, read, read_data_rhs, write_path, write_data, blank}
use Rattle.c_types.specs.Steps.{◌>>=◌, makes_cell, read_data_op, give, enter, give_back, without, leave, hand}
use Rattle.c_types.specs.Steps.{hand_over, exit}
use Rattle.c_types.specs.Steps.{assign_new, assign, look_at, all_dead, settle, settled, finished, act_turn, test_turn}
use Rattle.c_types.specs.Steps.{atom_of, turn_of}
use Rattle.c_types.specs.Runs.{empty_store}
use Rattle.c_types.specs.Fits.{PointsTo, FitsProgram, Visited, start, step, ActFits, ItemsFit}
use Rattle.c_types.proofs.Fitting.{Gives, always, onward_gives, PathLeads, path_leads, path_below, Sound, is_sound}
use Rattle.c_types.proofs.Fitting.{sound_fits, sound_proper, read_gives, path_sound, set_datum_sound, store_datum_sound}
use Rattle.c_types.proofs.Fitting.{kill_sound, grown_sound, grown_points, freed_sound, empty_sound}
use Rattle.c_types.proofs.ItemsTyped.{then_fit, opened_fit, after_fit, from_fit, exit_fit, start_fits}
use Rattle.c_types.proofs.WellTyped.{has_shapes_typed, has_vars_typed}

-- where a turn goes on, what it goes on with meets P
abbrev pub TurnGives : (Items → Store → Type 0) → Turn → Type 0
TurnGives P (Goes is s) = P is s
TurnGives P Stops = Unit {0}
TurnGives P (Faults k) = Unit {0}

pub turn_gives : (P : Items → Store → Type 0) (t : Turn) (js : Items) (u : Store) → TurnGives P t → t ≡ Goes js u
    → P js u
turn_gives P t js u this e = subst (TurnGives P) e this

pub settle_gives : (P : Items → Store → Type 0) (s : Store) (is : Items) → P is s → TurnGives P (settle s is)
settle_gives P s is this = here (leaks s) refl
  where
    here : (b : Bool) → leaks s ≡ b → TurnGives P (settle s is)
    here true leak = rw leak tt
    here false fine = rw fine this

settled_gives : (P : Items → Store → Type 0) (r : Result Store Fault) (is : Items) → Gives (λ s. P is s) r
    → TurnGives P (settled r is)
settled_gives P (Ok s) is this = settle_gives P s is this
settled_gives P (Err k) is this = tt

pub finished_gives : (P : Items → Store → Type 0) (r : Result Store Fault) → TurnGives P (finished r)
finished_gives P (Err k) = tt
finished_gives P (Ok s) = here (leaks (all_dead s)) refl
  where
    here : (b : Bool) → leaks (all_dead s) ≡ b → TurnGives P (finished (Ok s))
    here true leak = rw leak tt
    here false fine = rw fine tt

pub test_gives : (P : Items → Store → Type 0) (r : Result Bool Fault) (x y is : Items) (s : Store) → P (x then is) s
    → P (y then is) s → TurnGives P (test_turn r x y is s)
test_gives P (Ok true) x y is s yes_on no_on = settle_gives P s (x then is) yes_on
test_gives P (Ok false) x y is s yes_on no_on = settle_gives P s (y then is) no_on
test_gives P (Err k) x y is s yes_on no_on = tt

-- Structs that agree

pub target_is : (o : Option ℕ) (t : ℕ) → is_target o t ≡ true → o ≡ Some t
target_is None t e = absurd (true≢false (sym e))
target_is (Some u) t e = ap Some (eqb-true u t e)

pub some_target : (o : Option ℕ) → is_some o ≡ true → (t : ℕ) × (o ≡ Some t)
some_target None e = absurd (true≢false (sym e))
some_target (Some t) e = (t, refl)

pub agreed : (o r : Option ℕ) → both_targets o r ≡ true → (t : ℕ) × (o ≡ Some t) × (r ≡ Some t)
agreed None r e = absurd (true≢false (sym e))
agreed (Some t) r e = (t, refl, target_is r t e)

module _ (p : Program) (typed : is_typed p ≡ true) where
  abbrev target : Path → Option ℕ
  target q = path_target p.shapes.structs p.vars (length p.data_vars) q

  -- typed items and a store that fits
  abbrev Goods : Items → Store → Type 0
  Goods is s = ItemsFit p is × Sound p s

  assign_new_sound : (b : Bool) (s : Store) (to : Path) (shape : ℕ)
      → rhs_typed p.shapes.structs p.vars (length p.data_vars) (target to) (RhsNew shape) ≡ true → Sound p s
      → Gives (Sound p) (assign_new b p.shapes.structs s to shape)
  assign_new_sound true s to shape e sound =
      let leads : PathLeads p to shape = path_leads p to shape (target_is (target to) shape e) in
      let less : shape < length p.shapes.structs =
      path_below p to shape (has_shapes_typed p typed) (has_vars_typed p typed) leads in
      path_sound p (grown s (blank p.shapes.structs s.next shape)) to shape (Cell s.next)
      (grown_sound p s shape less sound) leads (grown_points p s shape)
  assign_new_sound false s to shape e sound =
      path_sound p s to shape Null sound (path_leads p to shape (target_is (target to) shape e)) tt

  assign_sound : (mode : MallocMode) (s : Store) (to : Path) (from : PtrRhs) (x : ℕ)
      → rhs_typed p.shapes.structs p.vars (length p.data_vars) (target to) from ≡ true → Sound p s
      → Gives (Sound p) (assign p.shapes.structs mode s to from x)
  assign_sound mode s to (RhsPath from) x e sound =
      let both : (t : ℕ) × (target to ≡ Some t) × (target from ≡ Some t) = agreed (target to) (target from) e in
      onward_gives (PointsTo s.cells both.0) (Sound p) (read s from) (λ v. write_path s to.var to.fields v)
      (read_gives p s from both.0 sound (path_leads p from both.0 both.2))
      (λ v points. path_sound p s to both.0 v sound (path_leads p to both.0 both.1) points)
  assign_sound mode s to RhsNull x e sound =
      let some : (t : ℕ) × (target to ≡ Some t) = some_target (target to) e in
      path_sound p s to some.0 Null sound (path_leads p to some.0 some.1) tt
  assign_sound mode s to (RhsNew shape) x e sound = assign_new_sound (makes_cell mode x) s to shape e sound

  write_data_sound : (s : Store) (to : DataPath) (d : Datum) → Sound p s → Gives (Sound p) (write_data s to d)
  write_data_sound s (DataVar x) d sound = set_datum_sound p s x d sound
  write_data_sound s (DataField base f) d sound =
      onward_gives (λ v. Unit {0}) (Sound p) (read s base) (λ v. store_datum s v f d) (always (read s base))
      (λ v this. store_datum_sound p s v f d sound)

  -- Calls

  abbrev fits_arg : VarRef → Arg → Type 0
  fits_arg v a = arg_typed p.shapes.structs p.vars (length p.data_vars) v a ≡ true

  -- the path of a variable alone
  abbrev bare : ℕ → Path
  bare x = record { var = x; fields = [] }

  give_sound : (s : Store) (v : VarRef) (a : Arg) → fits_arg v a → Sound p s → Gives (Sound p) (give s v a)
  give_sound s (PtrVar x) (PtrArg (OpPath q)) e sound =
      let both : (t : ℕ) × (target (bare x) ≡ Some t) × (target q ≡ Some t) = agreed (target (bare x)) (target q) e in
      onward_gives (PointsTo s.cells both.0) (Sound p) (read s q) (λ w. Ok (set_var s x w))
      (read_gives p s q both.0 sound (path_leads p q both.0 both.2))
      (λ w points. path_sound p s (bare x) both.0 w sound (path_leads p (bare x) both.0 both.1) points)
  give_sound s (PtrVar x) (PtrArg OpNull) e sound =
      let some : (t : ℕ) × (target (bare x) ≡ Some t) = some_target (target (bare x)) e in
      path_sound p s (bare x) some.0 Null sound (path_leads p (bare x) some.0 some.1) tt
  give_sound s (PtrVar x) (DataArg q) e sound = sound
  give_sound s (DatumVar x) (PtrArg q) e sound = sound
  give_sound s (DatumVar x) (DataArg q) e sound =
      onward_gives (λ d. Unit {0}) (Sound p) (read_data_op s q) (λ d. Ok (set_datum s x d)) (always (read_data_op s q))
      (λ d this. set_datum_sound p s x d sound)

  enter_sound : (s : Store) (vs : List VarRef) (ws : List Arg)
      → args_typed p.shapes.structs p.vars (length p.data_vars) vs ws ≡ true → Sound p s
      → Gives (Sound p) (enter s vs ws)
  enter_sound s [] ws e sound = sound
  enter_sound s (v ∷ vs) [] e sound = sound
  enter_sound s (v ∷ vs) (a ∷ ws) e sound =
      let parts = and_parts (arg_typed p.shapes.structs p.vars (length p.data_vars) v a)
      (args_typed p.shapes.structs p.vars (length p.data_vars) vs ws) e in
      onward_gives (Sound p) (Sound p) (give s v a) (λ t. enter t vs ws) (give_sound s v a parts.0 sound)
      (λ t this. enter_sound t vs ws parts.1 this)

  give_back_sound : (s : Store) (result : Option VarRef) (value : Option Arg)
      → value_typed p.shapes.structs p.vars (length p.data_vars) result value ≡ true → Sound p s
      → Gives (Sound p) (give_back s result value)
  give_back_sound s None value e sound = sound
  give_back_sound s (Some v) None e sound = sound
  give_back_sound s (Some v) (Some a) e sound = give_sound s v a e sound

  without_sound : (vs : List VarRef) (r : Result Store Fault) → Gives (Sound p) r
      → Gives (Sound p) (r >>= (λ t. Ok (without vs t)))
  without_sound vs r sound =
      onward_gives (Sound p) (Sound p) r (λ t. Ok (without vs t)) sound
      (λ t this. kill_sound p (ptr_vars vs) (datum_vars vs) t this)

  leave_sound : (s : Store) (result : Option VarRef) (locals : List VarRef) (value : Option Arg)
      → value_typed p.shapes.structs p.vars (length p.data_vars) result value ≡ true → Sound p s
      → Gives (Sound p) (leave s result locals value)
  leave_sound s result locals value e sound =
      without_sound locals (give_back s result value) (give_back_sound s result value e sound)

  hand_sound : (s : Store) (v : VarRef) (d : Dest)
      → dest_typed p.shapes.structs p.vars (length p.data_vars) v d ≡ true → Sound p s
      → Gives (Sound p) (hand s v d)
  hand_sound s (PtrVar x) (PtrDest q) e sound =
      let both : (t : ℕ) × (target (bare x) ≡ Some t) × (target q ≡ Some t) = agreed (target (bare x)) (target q) e in
      path_sound p s q both.0 (var_of s x) sound (path_leads p q both.0 both.2)
      (read_gives p s (bare x) both.0 sound (path_leads p (bare x) both.0 both.1))
  hand_sound s (PtrVar x) (DataDest q) e sound = sound
  hand_sound s (DatumVar x) (PtrDest q) e sound = sound
  hand_sound s (DatumVar x) (DataDest q) e sound = write_data_sound s q (datum_of s x) sound

  hand_over_sound : (s : Store) (result : Option VarRef) (to' : Option Dest)
      → to_typed p.shapes.structs p.vars (length p.data_vars) result to' ≡ true → Sound p s
      → Gives (Sound p) (hand_over s result to')
  hand_over_sound s None to' e sound = sound
  hand_over_sound s (Some v) None e sound = sound
  hand_over_sound s (Some v) (Some d) e sound = hand_sound s v d e sound

  exit_sound : (s : Store) (result : Option VarRef) (params : List VarRef) (to' : Option Dest)
      → to_typed p.shapes.structs p.vars (length p.data_vars) result to' ≡ true → Sound p s
      → Gives (Sound p) (exit s result params to')
  exit_sound s result params to' e sound =
      without_sound (with_result result params) (hand_over s result to') (hand_over_sound s result to' e sound)

  with_items : (is : Items) (r : Result Store Fault) → ItemsFit p is → Gives (Sound p) r → Gives (λ s. Goods is s) r
  with_items is (Ok s) fit sound = (fit, sound)
  with_items is (Err k) fit sound = tt

  act_gives : (mode : MallocMode) (a : Act) (is : Items) (s : Store) (x : ℕ) → ActFits p a → Goods is s
      → TurnGives Goods (act_turn p.shapes.structs mode a is s x)
  act_gives mode (SetPtr to from) is s x e this =
      settled_gives Goods (assign p.shapes.structs mode s to from x) is
      (with_items is (assign p.shapes.structs mode s to from x) this.0 (assign_sound mode s to from x e this.1))
  act_gives mode (SetData to from) is s x e this =
      settled_gives Goods _ is (with_items is _ this.0
      (onward_gives (λ d. Unit {0}) (Sound p) (read_data_rhs s from x) (λ d. write_data s to d)
      (always (read_data_rhs s from x)) (λ d that. write_data_sound s to d this.1)))
  act_gives mode (Free q) is s x e this =
      settled_gives Goods _ is (with_items is _ this.0
      (onward_gives (λ v. Unit {0}) (Sound p) (read s q) (λ v. freed s v) (always (read s q))
      (λ v that. freed_sound p s v this.1)))
  act_gives mode (Return operand) is s x e this = finished_gives Goods (look_at s operand)
  act_gives mode Break is s x e this =
      settle_gives Goods (kill (closed_ptrs is) (closed_datums is) s) (after_again is)
      (after_fit p is this.0, kill_sound p (closed_ptrs is) (closed_datums is) s this.1)
  act_gives mode Continue is s x e this =
      settle_gives Goods (kill (closed_ptrs is) (closed_datums is) s) (from_again is)
      (from_fit p is this.0, kill_sound p (closed_ptrs is) (closed_datums is) s this.1)
  act_gives mode _ is s x e this = tt

  step_gives : (mode : MallocMode) (is : Items) (s : Store) (x : ℕ) → Goods is s
      → TurnGives Goods (turn_of p.shapes.structs mode is s x)
  step_gives mode (Do a m is) s x this = act_gives mode a is s x this.0.0 (this.0.1, this.1)
  step_gives mode (Close ps ds m is) s x this =
      settle_gives Goods (kill ps ds s) is (this.0, kill_sound p ps ds s this.1)
  step_gives mode (If (Ask a m) y n is) s x this =
      test_gives Goods (atom_of a s x) y n is s (then_fit p y is this.0.0 this.0.2, this.1)
      (then_fit p n is this.0.1 this.0.2, this.1)
  step_gives mode (Enter vs ws m is) s x this =
      settled_gives Goods (enter s vs ws) is
      (with_items is (enter s vs ws) this.0.1 (enter_sound s vs ws this.0.0.args_fit this.1))
  step_gives mode (Leave v vs a m is) s x this =
      settled_gives Goods (leave s v vs a) (from_exit is)
      (with_items (from_exit is) (leave s v vs a) (exit_fit p is this.0.1)
      (leave_sound s v vs a this.0.0.value_fits this.1))
  step_gives mode (Exit v vs d m is) s x this =
      settled_gives Goods (exit s v vs d) is
      (with_items is (exit s v vs d) this.0.1 (exit_sound s v vs d this.0.0.to_fits this.1))
  step_gives mode _ s x this = tt

  goes_good : (mode : MallocMode) (is js : Items) (s t : Store) (x : ℕ) → Goods is s
      → turn_of p.shapes.structs mode (opened is) s x ≡ Goes js t
      → Goods js t
  goes_good mode is js s t x this e =
      turn_gives Goods (turn_of p.shapes.structs mode (opened is) s x) js t
      (step_gives mode (opened is) s x (opened_fit p is this.0, this.1)) e

  -- A run begins with typed items and a store that is proper and fits, and each step keeps that.

  pub begins_fitting : ItemsFit p (start_of p) × IsProper (empty_store (length p.vars) (length p.data_vars))
      × FitsProgram p (empty_store (length p.vars) (length p.data_vars))
  begins_fitting = (
    start_fits p typed,
    sound_proper p (empty_store (length p.vars) (length p.data_vars)) (empty_sound p),
    sound_fits p (empty_store (length p.vars) (length p.data_vars)) (empty_sound p),
  )

  pub step_keeps : (mode : MallocMode) (is js : Items) (s t : Store) (x : ℕ) → ItemsFit p is → IsProper s
      → FitsProgram p s
      → turn_of p.shapes.structs mode (opened is) s x ≡ Goes js t → ItemsFit p js × IsProper t × FitsProgram p t
  step_keeps mode is js s t x items proper fits e =
      let after : Goods js t = goes_good mode is js s t x (items, is_sound p s proper fits) e in
      (after.0, sound_proper p t after.1, sound_fits p t after.1)

  visited_good : (mode : MallocMode) {is : Items} {s : Store} → Visited p mode is s → Goods is s
  visited_good mode start = (start_fits p typed, empty_sound p)
  visited_good mode (step {is} {js} {s} {t} x before e) = goes_good mode is js s t x (visited_good mode before) e

  pub visited_fits : (mode : MallocMode) (is : Items) (s : Store) → Visited p mode is s → IsProper s × FitsProgram p s
  visited_fits mode is s visited = let this : Goods is s = visited_good mode visited in
      (sound_proper p s this.1, sound_fits p s this.1)
