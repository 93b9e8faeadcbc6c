-- What steps do to a variable that holds no cell, and that they do not set: it still holds none.
use Rattle.std.proofs.Common.{◌≡◌, inl, inr, ℕ, zero, suc, Bool, true, false, true≢false, nat_lt, if◌then◌else◌, Option}
use Rattle.std.proofs.Common.{Some, None, Result, Ok, List, [], ◌∷◌, map, replicate, slice_set, slice_index_or}
use Rattle.std.proofs.Common.{refl, sym, ap, ◌∙◌, subst}
use Rattle.fore_base.specs.declared.fault.Fault.{Fault}
use Rattle.fore_base.specs.declared.shape.Shape.{Shape}
use Rattle.fore_base.specs.declared.store.Value.{Value}
use Rattle.fore_base.specs.declared.store.Value.TheVariants.{Null, Uninit, Dangling, Cell}
use Rattle.fore_base.specs.declared.store.Datum.{Datum}
use Rattle.fore_base.specs.declared.store.Store.{Store}
use Rattle.fore_base.specs.Lists.{IsIn}
use Rattle.fore_base.specs.Stores.{onward, var_of, set_var, set_datum, set_each, kill, dangle, freed, grown}
use Rattle.fore_base.specs.Stores.{store_datum, write_from}
use Rattle.c_types.specs.declared.mode.MallocMode.{MallocMode}
use Rattle.c_types.specs.declared.program.Path.{Path}
use Rattle.c_types.specs.declared.program.DataPath.{DataPath}
use Rattle.c_types.specs.declared.program.DataPath.TheVariants.{Var as DataVar, Field as DataField}
use Rattle.c_types.specs.declared.program.PtrRhs.{PtrRhs}
use Rattle.c_types.specs.declared.program.PtrRhs.TheVariants.{Path as RhsPath, Null as RhsNull, New as RhsNew}
use Rattle.c_types.specs.declared.program.DataRhs.{DataRhs}
use Rattle.c_types.specs.declared.program.VarRef.{VarRef}
use Rattle.c_types.specs.declared.program.VarRef.TheVariants.{Ptr as PtrVar, Data as DatumVar}
use Rattle.c_types.specs.declared.program.Arg.{Arg}
use Rattle.c_types.specs.declared.program.Arg.TheVariants.{Ptr as PtrArg, Data as DataArg}
use Rattle.c_types.specs.declared.program.Dest.{Dest}
use Rattle.c_types.specs.declared.program.Dest.TheVariants.{Ptr as PtrDest, Data as DataDest}
use Rattle.c_types.specs.Control.{insert, ptr_vars, datum_vars, with_result}
use Rattle.c_types.specs.Steps.{read, read_op, read_data_op, read_data_rhs, write_path, write_data, blank, makes_cell}
use Rattle.c_types.specs.Steps.{assign_new, assign, assign_data, free_path, give, enter, give_back, without, leave}
use Rattle.c_types.specs.Steps.{hand_over, exit}
use Rattle.c_types.specs.Losses.{is_cell}
use Rattle.c_types.specs.Runs.{empty_store}
use Rattle.c_types.proofs.Fitting.{Gives, always, onward_gives}
use Rattle.c_types.proofs.LeakKept.{unset_at, write_from_vars, store_datum_vars}
use Rattle.c_types.proofs.LeakTests.{gives_by}

-- Lists of values

other_item : (vs : List Value) (y x : ℕ) (v : Value) → (x ≡ y → ⊥) → slice_index_or (slice_set vs y v) x Uninit
    ≡ slice_index_or vs x Uninit
other_item (w ∷ vs) zero zero v differ = absurd (differ refl)
other_item (w ∷ vs) (suc y) (suc x) v differ = other_item vs y x v (λ e. differ (ap suc e))
other_item _ _ _ v differ = refl

dead_item : (vs : List Value) (x : ℕ) → is_cell (slice_index_or (slice_set vs x Uninit) x Uninit) ≡ false
dead_item [] x = refl
dead_item (w ∷ vs) zero = refl
dead_item (w ∷ vs) (suc x) = dead_item vs x

unset_each : (vs : List Value) (ys : List ℕ) (x : ℕ) → is_cell (slice_index_or vs x Uninit) ≡ false
    → is_cell (slice_index_or (set_each vs ys Uninit) x Uninit) ≡ false
unset_each vs [] x e = e
unset_each vs (y ∷ ys) x e = unset_each (slice_set vs y Uninit) ys x (unset_at vs y x e)

dead_each : (vs : List Value) (ys : List ℕ) (x : ℕ) → IsIn x ys
    → is_cell (slice_index_or (set_each vs ys Uninit) x Uninit) ≡ false
dead_each vs [] x i = absurd i
dead_each vs (y ∷ ys) x (inl e) =
    unset_each (slice_set vs y Uninit) ys x
    (subst (λ z. is_cell (slice_index_or (slice_set vs z Uninit) x Uninit) ≡ false) e (dead_item vs x))
dead_each vs (y ∷ ys) x (inr i) = dead_each (slice_set vs y Uninit) ys x i

dangle_free : (n : ℕ) (v : Value) → is_cell v ≡ false → is_cell (dangle n v) ≡ false
dangle_free n (Cell m) e = absurd (true≢false e)
dangle_free n _ e = refl

dangle_each : (n : ℕ) (vs : List Value) (x : ℕ) → is_cell (slice_index_or vs x Uninit) ≡ false
    → is_cell (slice_index_or (map (dangle n) vs) x Uninit) ≡ false
dangle_each n [] x e = refl
dangle_each n (v ∷ vs) zero e = dangle_free n v e
dangle_each n (v ∷ vs) (suc x) e = dangle_each n vs x e

-- the pointers among some variables

insert_self : (y : ℕ) (ms : List ℕ) → IsIn y (insert y ms)
insert_self y [] = inl refl
insert_self y (m ∷ ms) = here (nat_lt y m) (insert_self y ms)
  where
    here : (b : Bool) → IsIn y (insert y ms) → IsIn y (if b then y ∷ m ∷ ms else m ∷ insert y ms)
    here true rest = inl refl
    here false rest = inr rest

insert_old : (y x : ℕ) (ms : List ℕ) → IsIn x ms → IsIn x (insert y ms)
insert_old y x [] i = absurd i
insert_old y x (m ∷ ms) i = here (nat_lt y m) i (insert_old y x ms)
  where
    here : (b : Bool) → IsIn x (m ∷ ms) → (IsIn x ms → IsIn x (insert y ms))
        → IsIn x (if b then y ∷ m ∷ ms else m ∷ insert y ms)
    here true j rest = inr j
    here false (inl e) rest = inl e
    here false (inr j) rest = inr (rest j)

ptr_among : (vs : List VarRef) (x : ℕ) → IsIn (PtrVar x) vs → IsIn x (ptr_vars vs)
ptr_among [] x i = absurd i
ptr_among (PtrVar y ∷ vs) x (inl e) =
    let same : x ≡ y = cc in subst (λ z. IsIn x (insert z (ptr_vars vs))) same (insert_self x (ptr_vars vs))
ptr_among (PtrVar y ∷ vs) x (inr i) = insert_old y x (ptr_vars vs) (ptr_among vs x i)
ptr_among (DatumVar y ∷ vs) x (inl e) = absurd (cc e)
ptr_among (DatumVar y ∷ vs) x (inr i) = ptr_among vs x i

-- a variable holds no cell
abbrev pub Safe : ℕ → Store → Type 0
Safe x s = is_cell (var_of s x) ≡ false

pub empty_safe : (n m x : ℕ) → Safe x (empty_store n m)
empty_safe n m x = by n x
  where
    by : (n x : ℕ) → is_cell (slice_index_or (replicate n Uninit) x Uninit) ≡ false
    by zero x = refl
    by (suc n) zero = refl
    by (suc n) (suc x) = by n x

module _ (x : ℕ) where
  abbrev SafeAfter : Result Store Fault → Type 0
  SafeAfter r = Gives (Safe x) r

  same_safe : (s t : Store) → t.vars ≡ s.vars → Safe x s → Safe x t
  same_safe s t same e = subst (λ vs. is_cell (slice_index_or vs x Uninit) ≡ false) (sym same) e

  set_safe : (s : Store) (y : ℕ) (v : Value) → (x ≡ y → ⊥) → Safe x s → Safe x (set_var s y v)
  set_safe s y v differ e = ap is_cell (other_item s.vars y x v differ) ∙ e

  pub kill_safe : (ps ds : List ℕ) (s : Store) → Safe x s → Safe x (kill ps ds s)
  kill_safe ps ds s e = unset_each s.vars ps x e

  pub dead_safe : (vs : List VarRef) (s : Store) → IsIn (PtrVar x) vs → Safe x (without vs s)
  dead_safe vs s i = dead_each s.vars (ptr_vars vs) x (ptr_among vs x i)

  pub freed_safe : (s : Store) (v : Value) → Safe x s → SafeAfter (freed s v)
  freed_safe s Null e = e
  freed_safe s Uninit e = tt
  freed_safe s Dangling e = tt
  freed_safe s (Cell n) e = dangle_each n s.vars x e

  path_safe : (s : Store) (y : ℕ) (fs : List ℕ) (v : Value) → (x ≡ y → ⊥) → Safe x s → SafeAfter (write_path s y fs v)
  path_safe s y [] v differ e = set_safe s y v differ e
  path_safe s y (f ∷ fs) v differ e =
      gives_by (Safe x) (write_from s (var_of s y) f fs v)
      (λ t got. same_safe s t (write_from_vars s t fs (var_of s y) f v got) e)

  data_safe : (s : Store) (q : DataPath) (d : Datum) → Safe x s → SafeAfter (write_data s q d)
  data_safe s (DataVar y) d e = e
  data_safe s (DataField base f) d e =
      onward_gives (λ v. Unit {0}) (Safe x) (read s base) (λ v. store_datum s v f d) (always (read s base))
      (λ v this. gives_by (Safe x) (store_datum s v f d)
      (λ t got. same_safe s t (store_datum_vars s t v f d got) e))

  -- Acts

  new_safe : (b : Bool) (shapes : List Shape) (s : Store) (to : Path) (shape : ℕ) → (x ≡ to.var → ⊥) → Safe x s
      → SafeAfter (assign_new b shapes s to shape)
  new_safe true shapes s to shape differ e =
      path_safe (grown s (blank shapes s.next shape)) to.var to.fields (Cell s.next) differ e
  new_safe false shapes s to shape differ e = path_safe s to.var to.fields Null differ e

  pub assign_safe : (shapes : List Shape) (mode : MallocMode) (s : Store) (to : Path) (from : PtrRhs) (c : ℕ)
      → (x ≡ to.var → ⊥) → Safe x s → SafeAfter (assign shapes mode s to from c)
  assign_safe shapes mode s to (RhsPath q) c differ e =
      onward_gives (λ v. Unit {0}) (Safe x) (read s q) (λ v. write_path s to.var to.fields v) (always (read s q))
      (λ v this. path_safe s to.var to.fields v differ e)
  assign_safe shapes mode s to RhsNull c differ e = path_safe s to.var to.fields Null differ e
  assign_safe shapes mode s to (RhsNew shape) c differ e = new_safe (makes_cell mode c) shapes s to shape differ e

  pub assign_data_safe : (s : Store) (to : DataPath) (from : DataRhs) (c : ℕ) → Safe x s
      → SafeAfter (assign_data s to from c)
  assign_data_safe s to from c e =
      onward_gives (λ d. Unit {0}) (Safe x) (read_data_rhs s from c) (λ d. write_data s to d)
      (always (read_data_rhs s from c)) (λ d this. data_safe s to d e)

  pub free_safe : (s : Store) (q : Path) → Safe x s → SafeAfter (free_path s q)
  free_safe s q e =
      onward_gives (λ v. Unit {0}) (Safe x) (read s q) (λ v. freed s v) (always (read s q))
      (λ v this. freed_safe s v e)

  -- Calls

  give_safe : (s : Store) (v : VarRef) (a : Arg) → (PtrVar x ≡ v → ⊥) → Safe x s → SafeAfter (give s v a)
  give_safe s (PtrVar y) (PtrArg q) differ e =
      onward_gives (λ w. Unit {0}) (Safe x) (read_op s q) (λ w. Ok (set_var s y w)) (always (read_op s q))
      (λ w this. set_safe s y w (λ same. differ (ap PtrVar same)) e)
  give_safe s (PtrVar y) (DataArg q) differ e = e
  give_safe s (DatumVar y) (PtrArg q) differ e = e
  give_safe s (DatumVar y) (DataArg q) differ e =
      onward_gives (λ d. Unit {0}) (Safe x) (read_data_op s q) (λ d. Ok (set_datum s y d)) (always (read_data_op s q))
      (λ d this. e)

  pub enter_safe : (s : Store) (vs : List VarRef) (ws : List Arg) → (IsIn (PtrVar x) vs → ⊥) → Safe x s
      → SafeAfter (enter s vs ws)
  enter_safe s [] ws absent e = e
  enter_safe s (v ∷ vs) [] absent e = e
  enter_safe s (v ∷ vs) (a ∷ ws) absent e =
      onward_gives (Safe x) (Safe x) (give s v a) (λ t. enter t vs ws)
      (give_safe s v a (λ same. absent (inl same)) e) (λ t this. enter_safe t vs ws (λ i. absent (inr i)) this)

  give_back_safe : (s : Store) (v : Option VarRef) (a : Option Arg) → (v ≡ Some (PtrVar x) → ⊥) → Safe x s
      → SafeAfter (give_back s v a)
  give_back_safe s None a other e = e
  give_back_safe s (Some v) None other e = e
  give_back_safe s (Some v) (Some a) other e = give_safe s v a (λ same. other (sym (ap Some same))) e

  without_safe : (vs : List VarRef) (r : Result Store Fault) → SafeAfter r
      → SafeAfter (onward r (λ t. Ok (without vs t)))
  without_safe vs r h =
      onward_gives (Safe x) (Safe x) r (λ t. Ok (without vs t)) h
      (λ t this. kill_safe (ptr_vars vs) (datum_vars vs) t this)

  pub leave_safe : (s : Store) (v : Option VarRef) (vs : List VarRef) (a : Option Arg)
      → (v ≡ Some (PtrVar x) → ⊥) → Safe x s → SafeAfter (leave s v vs a)
  leave_safe s v vs a other e = without_safe vs (give_back s v a) (give_back_safe s v a other e)

  -- the variable is the target
  abbrev pub IsTarget : Option Dest → Type 0
  IsTarget None = ⊥
  IsTarget (Some (PtrDest q)) = x ≡ q.var
  IsTarget (Some (DataDest q)) = ⊥

  hand_safe : (s : Store) (v : Option VarRef) (d : Option Dest) → (IsTarget d → ⊥) → Safe x s
      → SafeAfter (hand_over s v d)
  hand_safe s (Some (PtrVar y)) (Some (PtrDest q)) other e = path_safe s q.var q.fields (var_of s y) other e
  hand_safe s (Some (DatumVar y)) (Some (DataDest q)) other e = data_safe s q _ e
  hand_safe s _ _ other e = e

  pub exit_safe : (s : Store) (v : Option VarRef) (vs : List VarRef) (d : Option Dest) → (IsTarget d → ⊥) → Safe x s
      → SafeAfter (exit s v vs d)
  exit_safe s v vs d other e = without_safe (with_result v vs) (hand_over s v d) (hand_safe s v d other e)

  -- a parameter dies
  pub exit_dead : (s : Store) (v : Option VarRef) (vs : List VarRef) (d : Option Dest) → IsIn (PtrVar x) vs
      → SafeAfter (exit s v vs d)
  exit_dead s v vs d i =
      onward_gives (λ t. Unit {0}) (Safe x) (hand_over s v d) (λ t. Ok (without (with_result v vs) t))
      (always (hand_over s v d)) (λ t this. dead_safe (with_result v vs) t (in_more v))
    where
      in_more : (v : Option VarRef) → IsIn (PtrVar x) (with_result v vs)
      in_more None = i
      in_more (Some w) = inr i
