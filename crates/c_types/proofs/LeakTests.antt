-- A step that takes no reference to a cell away: its leak test has the answer that it had before.
use Rattle.std.proofs.Common.{◌≡◌, ℕ, Bool, true, false, Option, Some, None, Result, Ok, Err, List, []}
use Rattle.std.proofs.Common.{◌∷◌, ◌||◌, length, slice_index_or, refl, sym, ap, ◌∙◌, subst, true≢false}
use Rattle.std.proofs.lemmas.Bool.{or_parts}
use Rattle.fore_base.specs.declared.fault.Fault.{Fault}
use Rattle.fore_base.specs.declared.fault.Fault.TheVariants.{Leak}
use Rattle.fore_base.specs.declared.shape.Shape.{Shape}
use Rattle.fore_base.specs.declared.store.Value.{Value}
use Rattle.fore_base.specs.declared.store.Value.TheVariants.{Null, Uninit, Dangling, Cell}
use Rattle.fore_base.specs.declared.store.Datum.{Datum}
use Rattle.fore_base.specs.declared.store.Datum.TheVariants.{Undefined, Known}
use Rattle.fore_base.specs.declared.store.Store.{Store}
use Rattle.fore_base.specs.Heap.{leaks}
use Rattle.fore_base.specs.Stores.{onward, followed, load_datum, store_at, store_datum, var_of, datum_of, set_datum}
use Rattle.fore_base.specs.Stores.{field_in, walk, write_from, freed}
use Rattle.c_types.specs.declared.mode.MallocMode.{MallocMode}
use Rattle.c_types.specs.declared.program.Path.{Path}
use Rattle.c_types.specs.declared.program.DataPath.{DataPath}
use Rattle.c_types.specs.declared.program.DataPath.TheVariants.{Var as DataVar, Field as DataField}
use Rattle.c_types.specs.declared.program.PtrRhs.{PtrRhs}
use Rattle.c_types.specs.declared.program.PtrRhs.TheVariants.{Path as RhsPath, Null as RhsNull, New as RhsNew}
use Rattle.c_types.specs.declared.program.DataRhs.{DataRhs}
use Rattle.c_types.specs.declared.program.DataRhs.TheVariants.{Path as DataRhsPath, Known as DataRhsKnown}
use Rattle.c_types.specs.declared.program.DataRhs.TheVariants.{Choice as DataRhsChoice}
use Rattle.c_types.specs.declared.program.PtrOp.{PtrOp}
use Rattle.c_types.specs.declared.program.PtrOp.TheVariants.{Path as OpPath, Null as OpNull}
use Rattle.c_types.specs.declared.program.DataOp.{DataOp}
use Rattle.c_types.specs.declared.program.DataOp.TheVariants.{Path as DataOpPath, Known as DataOpKnown}
use Rattle.c_types.specs.declared.program.Atom.{Atom}
use Rattle.c_types.specs.declared.program.Atom.TheVariants.{Choice as ChoiceAtom, Known as KnownAtom, Ptr as PtrAtom}
use Rattle.c_types.specs.declared.program.Atom.TheVariants.{Data as DataAtom}
use Rattle.c_types.specs.declared.program.Act.{Act}
use Rattle.c_types.specs.declared.program.Act.TheVariants.{SetPtr, SetData, Free, Return, Break, Continue}
use Rattle.c_types.specs.declared.program.VarRef.{VarRef}
use Rattle.c_types.specs.declared.program.VarRef.TheVariants.{Ptr as PtrVar, Data as DatumVar}
use Rattle.c_types.specs.declared.program.Arg.{Arg}
use Rattle.c_types.specs.declared.program.Arg.TheVariants.{Ptr as PtrArg, Data as DataArg}
use Rattle.c_types.specs.declared.program.Dest.{Dest}
use Rattle.c_types.specs.declared.program.Dest.TheVariants.{Ptr as PtrDest, Data as DataDest}
use Rattle.c_types.specs.Control.{Items, Do, Close, If, Enter, Leave, Exit, Ask}
use Rattle.c_types.specs.Control.{closed_ptrs, closed_datums, after_again, from_again, from_exit}
use Rattle.c_types.specs.Control.{◌then◌}
use Rattle.c_types.specs.Control.{with_result}
use Rattle.c_types.specs.Steps.{Goes, Stops, Faults, read, read_data, read_op, read_data_op, read_data_rhs, look_at}
use Rattle.c_types.specs.Steps.{same_values, same_datums, atom_of, write_path, write_data, makes_cell, assign_new}
use Rattle.c_types.specs.Steps.{assign, assign_data, free_path, settle, settled, finished, all_dead, below, act_turn}
use Rattle.c_types.specs.Steps.{test_turn, turn_of}
use Rattle.c_types.specs.Steps.{give, enter, give_back, without, leave, hand, hand_over, exit}
use Rattle.c_types.specs.Losses.{is_cell, got_cell, assign_loses, act_loses, dest_loses, to_loses, vars_hold, loses}
use Rattle.c_types.proofs.LeakKept.{Keeps, kept_sound, keeps_all, set_datum_keeps, kill_keeps, store_datum_keeps}
use Rattle.c_types.proofs.LeakKept.{write_path_keeps, write_from_keeps, write_from_vars, store_datum_vars}
use Rattle.c_types.proofs.HeldOn.{HoldsOn, holds_same, holds_keeps, set_holds, enter_holds, leave_holds, without_holds}
use Rattle.c_types.proofs.Fitting.{Gives}

-- No fault of an evaluation is a leak

is_leak : Fault → Bool
is_leak Leak = true
is_leak _ = false

abbrev NoLeak : {A : Type 0} → Result A Fault → Type 0
NoLeak (Ok a) = Unit {0}
NoLeak (Err k) = (k ≡ Leak) → ⊥

onward_clean : {A B : Type 0} (r : Result A Fault) (next : A → Result B Fault) → NoLeak r → ((a : A) → NoLeak (next a))
    → NoLeak (onward r next)
onward_clean (Ok a) next h rest = rest a
onward_clean (Err k) next h rest = h

followed_clean : (v : Value) → NoLeak (followed v)
followed_clean (Cell n) = tt
followed_clean _ = λ e. cc

walk_clean : (s : Store) (v : Value) (fs : List ℕ) → NoLeak (walk s v fs)
walk_clean s v [] = tt
walk_clean s (Cell n) (f ∷ fs) = walk_clean s (field_in s.cells n f) fs
walk_clean s _ _ = λ e. cc

store_at_clean : (s : Store) (v : Value) (f : ℕ) (w : Value) → NoLeak (store_at s v f w)
store_at_clean s v f w = onward_clean (followed v) _ (followed_clean v) (λ n. tt)

write_from_clean : (s : Store) (v : Value) (f : ℕ) (fs : List ℕ) (w : Value) → NoLeak (write_from s v f fs w)
write_from_clean s v f [] w = store_at_clean s v f w
write_from_clean s (Cell n) f (g ∷ gs) w = write_from_clean s (field_in s.cells n f) g gs w
write_from_clean s _ f _ w = λ e. cc

write_path_clean : (s : Store) (x : ℕ) (fs : List ℕ) (v : Value) → NoLeak (write_path s x fs v)
write_path_clean s x [] v = tt
write_path_clean s x (f ∷ fs) v = write_from_clean s (var_of s x) f fs v

read_clean : (s : Store) (p : Path) → NoLeak (read s p)
read_clean s p = walk_clean s (var_of s p.var) p.fields

read_data_clean : (s : Store) (p : DataPath) → NoLeak (read_data s p)
read_data_clean s (DataVar x) = tt
read_data_clean s (DataField base f) =
    onward_clean (read s base) (λ v. load_datum s v f) (read_clean s base)
    (λ v. onward_clean (followed v) _ (followed_clean v) (λ n. tt))

read_op_clean : (s : Store) (p : PtrOp) → NoLeak (read_op s p)
read_op_clean s (OpPath p) = read_clean s p
read_op_clean s OpNull = tt

read_data_op_clean : (s : Store) (p : DataOp) → NoLeak (read_data_op s p)
read_data_op_clean s (DataOpPath p) = read_data_clean s p
read_data_op_clean s (DataOpKnown k) = tt

same_values_clean : (v w : Value) → NoLeak (same_values v w)
same_values_clean Null Null = tt
same_values_clean Null (Cell m) = tt
same_values_clean (Cell n) Null = tt
same_values_clean (Cell n) (Cell m) = tt
same_values_clean _ _ = λ e. cc

same_datums_clean : (d e : Datum) → NoLeak (same_datums d e)
same_datums_clean Undefined e = λ h. cc
same_datums_clean (Known a) Undefined = λ h. cc
same_datums_clean (Known a) (Known b) = tt

atom_clean : (a : Atom) (s : Store) (x : ℕ) → NoLeak (atom_of a s x)
atom_clean ChoiceAtom s x = tt
atom_clean (KnownAtom b) s x = tt
atom_clean (PtrAtom l r equal) s x =
    onward_clean (read_op s l) _ (read_op_clean s l)
    (λ v. onward_clean (read_op s r) _ (read_op_clean s r)
    (λ w. onward_clean (same_values v w) _ (same_values_clean v w) (λ b. tt)))
atom_clean (DataAtom l r equal) s x =
    onward_clean (read_data_op s l) _ (read_data_op_clean s l)
    (λ d. onward_clean (read_data_op s r) _ (read_data_op_clean s r)
    (λ e. onward_clean (same_datums d e) _ (same_datums_clean d e) (λ b. tt)))

write_data_clean : (s : Store) (p : DataPath) (d : Datum) → NoLeak (write_data s p d)
write_data_clean s (DataVar x) d = tt
write_data_clean s (DataField base f) d =
    onward_clean (read s base) (λ v. store_datum s v f d) (read_clean s base)
    (λ v. onward_clean (followed v) _ (followed_clean v) (λ n. tt))

read_data_rhs_clean : (s : Store) (r : DataRhs) (x : ℕ) → NoLeak (read_data_rhs s r x)
read_data_rhs_clean s (DataRhsPath p) x = read_data_clean s p
read_data_rhs_clean s (DataRhsKnown k) x = tt
read_data_rhs_clean s DataRhsChoice x = tt

freed_clean : (s : Store) (v : Value) → NoLeak (freed s v)
freed_clean s Null = tt
freed_clean s Uninit = λ e. cc
freed_clean s Dangling = λ e. cc
freed_clean s (Cell n) = tt

look_at_clean : (s : Store) (p : Option DataPath) → NoLeak (look_at s p)
look_at_clean s None = tt
look_at_clean s (Some p) = onward_clean (read_data s p) _ (read_data_clean s p) (λ d. tt)

-- A store that the change gives, if it gives one, keeps references

abbrev KeepsAll : Store → Result Store Fault → Type 0
KeepsAll s r = (t : Store) → r ≡ Ok t → Keeps s t

-- what was written at the end of a path, over what was no cell; where the path meets a fault nothing is written
walk_wrote : (s : Store) (t : Store) (fs : List ℕ) (v : Value) (f : ℕ) (w : Value) → write_from s v f fs w ≡ Ok t
    → (old : Value) × (walk s v (f ∷ fs) ≡ Ok old)
walk_wrote s t [] (Cell n) f w e = (field_in s.cells n f, refl)
walk_wrote s t (g ∷ gs) (Cell n) f w e = walk_wrote s t gs (field_in s.cells n f) g w e
walk_wrote s t _ _ f w e = cc

path_wrote : (s : Store) (t : Store) (x : ℕ) (fs : List ℕ) (w : Value) → write_path s x fs w ≡ Ok t → (old : Value)
    × (walk s (var_of s x) fs ≡ Ok old)
path_wrote s t x [] w e = (var_of s x, refl)
path_wrote s t x (f ∷ fs) w e = walk_wrote s t fs (var_of s x) f w e

write_keeps : (s : Store) (to : Path) (w : Value) → got_cell (read s to) ≡ false
    → KeepsAll s (write_path s to.var to.fields w)
write_keeps s to w none t e =
    let old : (v : Value) × (walk s (var_of s to.var) to.fields ≡ Ok v) = path_wrote s t to.var to.fields w e in
    write_path_keeps s t to.var to.fields old.0 w old.1 (ap got_cell (sym old.1) ∙ none) e

onward_keeps : {A : Type 0} (s : Store) (r : Result A Fault) (next : A → Result Store Fault)
    → ((a : A) → r ≡ Ok a → KeepsAll s (next a)) → KeepsAll s (onward r next)
onward_keeps s (Ok a) next rest t e = rest a refl t e
onward_keeps s (Err k) next rest t e = cc

assign_keeps : (shapes : List Shape) (mode : MallocMode) (s : Store) (to : Path) (from : PtrRhs) (x : ℕ)
    → assign_loses s to from ≡ false
    → KeepsAll s (assign shapes mode s to from x)
assign_keeps shapes mode s to (RhsPath from) x none =
    onward_keeps s (read s from) (λ v. write_path s to.var to.fields v) (λ v is. write_keeps s to v none)
assign_keeps shapes mode s to RhsNull x none = write_keeps s to Null none
assign_keeps shapes mode s to (RhsNew shape) x none = absurd (true≢false none)

write_data_keeps : (s : Store) (to : DataPath) (d : Datum) → KeepsAll s (write_data s to d)
write_data_keeps s (DataVar x) d t e = let same : set_datum s x d ≡ t = cc in
    subst (Keeps s) same (set_datum_keeps s x d)
write_data_keeps s (DataField base f) d t e =
    onward_keeps s (read s base) (λ v. store_datum s v f d) (λ v is u g. store_datum_keeps s u v f d g) t e

freed_keeps : (s : Store) (v : Value) → is_cell v ≡ false → KeepsAll s (freed s v)
freed_keeps s Null none t e = let same : s ≡ t = cc in subst (Keeps s) same (keeps_all s)
freed_keeps s Uninit none t e = cc
freed_keeps s Dangling none t e = cc
freed_keeps s (Cell n) none t e = absurd (true≢false none)

free_keeps : (s : Store) (p : Path) → got_cell (read s p) ≡ false → KeepsAll s (free_path s p)
free_keeps s p none = onward_keeps s (read s p) (freed s) (λ v is. freed_keeps s v (ap got_cell (sym is) ∙ none))

pub look_keeps : (s : Store) (p : Option DataPath) (t : Store) → look_at s p ≡ Ok t → s ≡ t
look_keeps s None t e = cc
look_keeps s (Some p) t e = here (read_data s p) e
  where
    here : (r : Result Datum Fault) → onward r (λ d. Ok s) ≡ Ok t → s ≡ t
    here (Ok d) e = cc
    here (Err k) e = cc

assign_new_clean : (shapes : List Shape) (b : Bool) (s : Store) (to : Path) (shape : ℕ)
    → NoLeak (assign_new b shapes s to shape)
assign_new_clean shapes true s to shape = write_path_clean _ to.var to.fields (Cell s.next)
assign_new_clean shapes false s to shape = write_path_clean s to.var to.fields Null

-- Calls

give_clean : (s : Store) (v : VarRef) (a : Arg) → NoLeak (give s v a)
give_clean s (PtrVar x) (PtrArg q) = onward_clean (read_op s q) _ (read_op_clean s q) (λ w. tt)
give_clean s (PtrVar x) (DataArg q) = tt
give_clean s (DatumVar x) (PtrArg q) = tt
give_clean s (DatumVar x) (DataArg q) = onward_clean (read_data_op s q) _ (read_data_op_clean s q) (λ d. tt)

enter_clean : (s : Store) (vs : List VarRef) (ws : List Arg) → NoLeak (enter s vs ws)
enter_clean s [] ws = tt
enter_clean s (v ∷ vs) [] = tt
enter_clean s (v ∷ vs) (a ∷ ws) =
    onward_clean (give s v a) (λ t. enter t vs ws) (give_clean s v a) (λ t. enter_clean t vs ws)

give_back_clean : (s : Store) (v : Option VarRef) (a : Option Arg) → NoLeak (give_back s v a)
give_back_clean s None a = tt
give_back_clean s (Some v) None = tt
give_back_clean s (Some v) (Some a) = give_clean s v a

leave_clean : (s : Store) (v : Option VarRef) (vs : List VarRef) (a : Option Arg) → NoLeak (leave s v vs a)
leave_clean s v vs a = onward_clean (give_back s v a) (λ t. Ok (without vs t)) (give_back_clean s v a) (λ t. tt)

hand_clean : (s : Store) (v : VarRef) (d : Dest) → NoLeak (hand s v d)
hand_clean s (PtrVar x) (PtrDest q) = write_path_clean s q.var q.fields (var_of s x)
hand_clean s (PtrVar x) (DataDest q) = tt
hand_clean s (DatumVar x) (PtrDest q) = tt
hand_clean s (DatumVar x) (DataDest q) = write_data_clean s q (datum_of s x)

hand_over_clean : (s : Store) (v : Option VarRef) (d : Option Dest) → NoLeak (hand_over s v d)
hand_over_clean s None d = tt
hand_over_clean s (Some v) None = tt
hand_over_clean s (Some v) (Some d) = hand_clean s v d

exit_clean : (s : Store) (v : Option VarRef) (vs : List VarRef) (d : Option Dest) → NoLeak (exit s v vs d)
exit_clean s v vs d =
    onward_clean (hand_over s v d) (λ t. Ok (without (with_result v vs) t)) (hand_over_clean s v d) (λ t. tt)

-- what a change gives, by what it does where it gives something
pub gives_by : {A : Type 0} (P : A → Type 0) (r : Result A Fault) → ((a : A) → r ≡ Ok a → P a) → Gives P r
gives_by P (Ok a) h = h a refl
gives_by P (Err k) h = tt

held_keeps : (s : Store) (r : Result Store Fault) → Gives (HoldsOn s) r → KeepsAll s r
held_keeps s (Ok u) h t e = let same : u ≡ t = cc in subst (Keeps s) same (holds_keeps s u h)
held_keeps s (Err k) h t e = cc

-- a cell's fields change, and no variable does
fields_hold : (s t : Store) → t.vars ≡ s.vars → Keeps s t → HoldsOn s t
fields_hold s t same keeps = record {
  vars = λ k n e. ap (λ vs. slice_index_or vs k Uninit) same ∙ e;
  cells = keeps.cells;
}

path_holds : (s : Store) (x : ℕ) (fs : List ℕ) (w : Value) → got_cell (walk s (var_of s x) fs) ≡ false
    → Gives (HoldsOn s) (write_path s x fs w)
path_holds s x [] w none = set_holds s s x w none (holds_same s)
path_holds s x (f ∷ fs) w none = gives_by (HoldsOn s) (write_from s (var_of s x) f fs w) (λ t e.
    let old : (v : Value) × (walk s (var_of s x) (f ∷ fs) ≡ Ok v) = walk_wrote s t fs (var_of s x) f w e in
    fields_hold s t (write_from_vars s t fs (var_of s x) f w e)
    (write_from_keeps s t fs (var_of s x) f old.0 w old.1 (ap got_cell (sym old.1) ∙ none) e))

data_holds : (s : Store) (q : DataPath) (d : Datum) → Gives (HoldsOn s) (write_data s q d)
data_holds s (DataVar x) d = record { vars = λ k n e. e; cells = (set_datum_keeps s x d).cells }
data_holds s (DataField base f) d = gives_by (HoldsOn s) (write_data s (DataField base f) d) (λ t e.
    fields_hold s t (kept_vars t (read s base) e) (write_data_keeps s (DataField base f) d t e))
  where
    kept_vars : (t : Store) (r : Result Value Fault) → onward r (λ v. store_datum s v f d) ≡ Ok t → t.vars ≡ s.vars
    kept_vars t (Ok v) e = store_datum_vars s t v f d e
    kept_vars t (Err k) e = cc

hand_holds : (s : Store) (v : VarRef) (d : Dest) → dest_loses s d ≡ false → Gives (HoldsOn s) (hand s v d)
hand_holds s (PtrVar x) (PtrDest q) none = path_holds s q.var q.fields (var_of s x) none
hand_holds s (PtrVar x) (DataDest q) none = holds_same s
hand_holds s (DatumVar x) (PtrDest q) none = holds_same s
hand_holds s (DatumVar x) (DataDest q) none = data_holds s q (datum_of s x)

hand_over_holds : (s : Store) (v : Option VarRef) (d : Option Dest) → to_loses s d ≡ false
    → Gives (HoldsOn s) (hand_over s v d)
hand_over_holds s None d none = holds_same s
hand_over_holds s (Some v) None none = holds_same s
hand_over_holds s (Some v) (Some d) none = hand_holds s v d none

exit_holds : (s : Store) (v : Option VarRef) (vs : List VarRef) (d : Option Dest)
    → (to_loses s d || vars_hold s (with_result v vs)) ≡ false → Gives (HoldsOn s) (exit s v vs d)
exit_holds s v vs d none =
    let parts = or_parts (to_loses s d) (vars_hold s (with_result v vs)) none in
    without_holds s (with_result v vs) (hand_over s v d) parts.1 (hand_over_holds s v d parts.0)

-- Turns

sound_settles : (t : Store) (is : Items) → leaks t ≡ false → settle t is ≡ Faults Leak → ⊥
sound_settles t is sound e = let wrong : Goes is t ≡ Faults Leak = rw sound at e in cc

settled_sound : (s : Store) (r : Result Store Fault) (is : Items) → NoLeak r → KeepsAll s r → leaks s ≡ false
    → settled r is ≡ Faults Leak → ⊥
settled_sound s (Ok t) is clean keeps sound e = sound_settles t is (kept_sound s t (keeps t refl) sound) e
settled_sound s (Err k) is clean keeps sound e = let same : k ≡ Leak = cc in clean same

finished_sound : (s : Store) (r : Result Store Fault) → NoLeak r → ((t : Store) → r ≡ Ok t → leaks (all_dead t) ≡ false)
    → finished r ≡ Faults Leak → ⊥
finished_sound s (Ok t) clean sound e = let wrong : Stops ≡ Faults Leak = rw (sound t refl) at e in cc
finished_sound s (Err k) clean sound e = let same : k ≡ Leak = cc in clean same

module _ (shapes : List Shape) (mode : MallocMode) where
  act_sound : (a : Act) (is : Items) (s : Store) (x : ℕ) → act_loses a is s ≡ false → leaks s ≡ false
      → act_turn shapes mode a is s x ≡ Faults Leak → ⊥
  act_sound (SetPtr to from) is s x none sound e =
      settled_sound s (assign shapes mode s to from x) is (assign_clean from)
      (assign_keeps shapes mode s to from x none) sound e
    where
      assign_clean : (from : PtrRhs) → NoLeak (assign shapes mode s to from x)
      assign_clean (RhsPath from) =
          onward_clean (read s from) (λ v. write_path s to.var to.fields v) (read_clean s from)
          (λ v. write_path_clean s to.var to.fields v)
      assign_clean RhsNull = write_path_clean s to.var to.fields Null
      assign_clean (RhsNew shape) = assign_new_clean shapes (makes_cell mode x) s to shape
  act_sound (SetData to from) is s x none sound e =
      settled_sound s (assign_data s to from x) is
      (onward_clean (read_data_rhs s from x) (λ d. write_data s to d) (read_data_rhs_clean s from x)
      (λ d. write_data_clean s to d))
      (onward_keeps s (read_data_rhs s from x) (λ d. write_data s to d) (λ d is. write_data_keeps s to d)) sound e
  act_sound (Free p) is s x none sound e =
      settled_sound s (free_path s p) is (onward_clean (read s p) (freed s) (read_clean s p) (λ v. freed_clean s v))
      (free_keeps s p none) sound e
  act_sound (Return operand) is s x none sound e =
      finished_sound s (look_at s operand) (look_at_clean s operand)
      (λ t same. subst (λ (u : Store). leaks (all_dead u) ≡ false) (look_keeps s operand t same)
      (kept_sound s (all_dead s) (kill_keeps s (below (length s.vars)) (below (length s.data_vars)) none) sound)) e
  act_sound Break is s x none sound e =
      sound_settles _ (after_again is) (kept_sound s _ (kill_keeps s (closed_ptrs is) (closed_datums is) none) sound) e
  act_sound Continue is s x none sound e =
      sound_settles _ (from_again is) (kept_sound s _ (kill_keeps s (closed_ptrs is) (closed_datums is) none) sound) e
  act_sound _ is s x none sound e = cc

  test_sound : (r : Result Bool Fault) (x y is : Items) (s : Store) → NoLeak r → leaks s ≡ false → test_turn r x y is s
      ≡ Faults Leak → ⊥
  test_sound (Ok true) x y is s clean sound e = sound_settles s (x then is) sound e
  test_sound (Ok false) x y is s clean sound e = sound_settles s (y then is) sound e
  test_sound (Err k) x y is s clean sound e = let same : k ≡ Leak = cc in clean same

  -- where no cell had leaked, none has leaked after the step
  pub turn_sound : (is : Items) (s : Store) (x : ℕ) → loses is s ≡ false → leaks s ≡ false → turn_of shapes mode is s x
      ≡ Faults Leak → ⊥
  turn_sound (Do a m is) s x none sound e = act_sound a is s x none sound e
  turn_sound (Close ps ds m is) s x none sound e = sound_settles _ is (kept_sound s _ (kill_keeps s ps ds none) sound) e
  turn_sound (If (Ask a m) y n is) s x none sound e = test_sound (atom_of a s x) y n is s (atom_clean a s x) sound e
  turn_sound (Enter vs ws m is) s x none sound e =
      settled_sound s (enter s vs ws) is (enter_clean s vs ws)
      (held_keeps s (enter s vs ws) (enter_holds s s vs ws none (holds_same s))) sound e
  turn_sound (Leave v vs a m is) s x none sound e =
      settled_sound s (leave s v vs a) (from_exit is) (leave_clean s v vs a)
      (held_keeps s (leave s v vs a) (leave_holds s v vs a none)) sound e
  turn_sound (Exit v vs d m is) s x none sound e =
      settled_sound s (exit s v vs d) is (exit_clean s v vs d)
      (held_keeps s (exit s v vs d) (exit_holds s v vs d none)) sound e
  turn_sound _ s x none sound e = cc
