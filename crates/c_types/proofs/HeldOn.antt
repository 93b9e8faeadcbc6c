-- Changes after which each variable that held a cell still holds it: of several changes one after the other it is
-- enough that none is of a variable that held a cell before the first.
use Rattle.std.proofs.Common.{◌≡◌, inl, inr, ℕ, zero, suc, Bool, true, false, nat_lt, if◌then◌else◌}
use Rattle.std.proofs.Common.{Option, Some, None, Result, Ok, List, [], ◌∷◌, slice_set, slice_index_or, refl, sym}
use Rattle.std.proofs.Common.{ap, ◌∙◌, true≢false}
use Rattle.std.proofs.lemmas.Bool.{or_from, or_parts}
use Rattle.fore_base.specs.declared.fault.Fault.{Fault}
use Rattle.fore_base.specs.declared.store.Value.{Value}
use Rattle.fore_base.specs.declared.store.Value.TheVariants.{Uninit, Cell}
use Rattle.fore_base.specs.declared.store.Store.{Store}
use Rattle.fore_base.specs.Lists.{IsIn, Paired}
use Rattle.fore_base.specs.Stores.{set_var, set_datum, set_each, kill}
use Rattle.c_types.specs.declared.program.VarRef.{VarRef}
use Rattle.c_types.specs.declared.program.VarRef.TheVariants.{Ptr as PtrVar, Data as DatumVar}
use Rattle.c_types.specs.declared.program.Arg.{Arg}
use Rattle.c_types.specs.declared.program.Arg.TheVariants.{Ptr as PtrArg, Data as DataArg}
use Rattle.c_types.specs.Control.{insert, ptr_vars, datum_vars, with_result}
use Rattle.c_types.specs.Steps.{◌>>=◌, read_op, read_data_op, give, enter, give_back, without, leave}
use Rattle.c_types.specs.Losses.{is_cell, hold_cell, vars_hold}
use Rattle.c_types.proofs.Fitting.{Gives, always, onward_gives}
use Rattle.c_types.proofs.LeakKept.{KeptCell, Keeps, same_cells}

-- each variable that holds a cell in s holds it in t, and no field of a cell lost one
pub record HoldsOn (s t : Store) : Type 0 where
  pub vars : (k n : ℕ) → slice_index_or s.vars k Uninit ≡ Cell n → slice_index_or t.vars k Uninit ≡ Cell n
  pub cells : Paired KeptCell s.cells t.cells

pub holds_same : (s : Store) → HoldsOn s s
holds_same s = record { vars = λ k n e. e; cells = same_cells s.cells }

-- where a cell stands in a list
cell_place : (vs : List Value) (n : ℕ) → IsIn (Cell n) vs → (k : ℕ) × (slice_index_or vs k Uninit ≡ Cell n)
cell_place [] n h = absurd h
cell_place (v ∷ vs) n (inl e) = (0, sym e)
cell_place (v ∷ vs) n (inr h) = let at = cell_place vs n h in (suc at.0, at.1)

pub place_cell : (vs : List Value) (k n : ℕ) → slice_index_or vs k Uninit ≡ Cell n → IsIn (Cell n) vs
place_cell [] k n e = cc
place_cell (v ∷ vs) zero n e = inl (sym e)
place_cell (v ∷ vs) (suc k) n e = inr (place_cell vs k n e)

pub holds_keeps : (s t : Store) → HoldsOn s t → Keeps s t
holds_keeps s t h = record {
  vars = λ n i. let at = cell_place s.vars n i in place_cell t.vars at.0 n (h.vars at.0 n at.1);
  cells = h.cells;
}

-- a variable that held no cell is set
set_holds_at : (us ts : List Value) (x : ℕ) (v : Value) → is_cell (slice_index_or us x Uninit) ≡ false
    → ((k n : ℕ) → slice_index_or us k Uninit ≡ Cell n → slice_index_or ts k Uninit ≡ Cell n)
    → (k n : ℕ) → slice_index_or us k Uninit ≡ Cell n → slice_index_or (slice_set ts x v) k Uninit ≡ Cell n
set_holds_at us ts x v none h k n e =
    elsewhere ts x k
    (λ same. true≢false (sym (ap is_cell (sym (ap (λ j. slice_index_or us j Uninit) same) ∙ e)) ∙ none)) (h k n e)
  where
    elsewhere : (ws : List Value) (y j : ℕ) → (j ≡ y → ⊥) → slice_index_or ws j Uninit ≡ Cell n
        → slice_index_or (slice_set ws y v) j Uninit ≡ Cell n
    elsewhere [] y j differ f = f
    elsewhere (w ∷ ws) zero zero differ f = absurd (differ refl)
    elsewhere (w ∷ ws) zero (suc j) differ f = f
    elsewhere (w ∷ ws) (suc y) zero differ f = f
    elsewhere (w ∷ ws) (suc y) (suc j) differ f = elsewhere ws y j (λ same. differ (ap suc same)) f

pub set_holds : (s t : Store) (x : ℕ) (v : Value) → is_cell (slice_index_or s.vars x Uninit) ≡ false → HoldsOn s t
    → HoldsOn s (set_var t x v)
set_holds s t x v none h = record { vars = set_holds_at s.vars t.vars x v none h.vars; cells = h.cells }

-- variables that held no cell die
each_holds_at : (us ts : List Value) (xs : List ℕ) → hold_cell us xs ≡ false
    → ((k n : ℕ) → slice_index_or us k Uninit ≡ Cell n → slice_index_or ts k Uninit ≡ Cell n)
    → (k n : ℕ) → slice_index_or us k Uninit ≡ Cell n → slice_index_or (set_each ts xs Uninit) k Uninit ≡ Cell n
each_holds_at us ts [] none h = h
each_holds_at us ts (x ∷ xs) none h =
    let parts = or_parts (is_cell (slice_index_or us x Uninit)) (hold_cell us xs) none in
    each_holds_at us (slice_set ts x Uninit) xs parts.1 (set_holds_at us ts x Uninit parts.0 h)

pub kill_holds : (s t : Store) (ps ds : List ℕ) → hold_cell s.vars ps ≡ false → HoldsOn s t → HoldsOn s (kill ps ds t)
kill_holds s t ps ds none h = record { vars = each_holds_at s.vars t.vars ps none h.vars; cells = h.cells }

-- Parameters, results and local variables

insert_holds : (us : List Value) (x : ℕ) (xs : List ℕ) → hold_cell us (insert x xs) ≡ false
    → (is_cell (slice_index_or us x Uninit) ≡ false) × (hold_cell us xs ≡ false)
insert_holds us x [] none = ((or_parts (is_cell (slice_index_or us x Uninit)) false none).0, refl)
insert_holds us x (y ∷ ys) none = here (nat_lt x y) none (insert_holds us x ys)
  where
    here : (b : Bool) → hold_cell us (if b then x ∷ y ∷ ys else y ∷ insert x ys) ≡ false
        → (hold_cell us (insert x ys) ≡ false
        → (is_cell (slice_index_or us x Uninit) ≡ false) × (hold_cell us ys ≡ false))
        → (is_cell (slice_index_or us x Uninit) ≡ false) × (hold_cell us (y ∷ ys) ≡ false)
    here true e later = or_parts (is_cell (slice_index_or us x Uninit)) (hold_cell us (y ∷ ys)) e
    here false e later =
        let parts = or_parts (is_cell (slice_index_or us y Uninit)) (hold_cell us (insert x ys)) e in
        let rest = later parts.1 in
        (rest.0, or_from (is_cell (slice_index_or us y Uninit)) (hold_cell us ys) parts.0 rest.1)

-- the first of some variables holds no cell, if it is a pointer
abbrev first_free : Store → VarRef → Type 0
first_free s (PtrVar x) = is_cell (slice_index_or s.vars x Uninit) ≡ false
first_free s (DatumVar x) = Unit {0}

vars_parts : (s : Store) (v : VarRef) (vs : List VarRef) → vars_hold s (v ∷ vs) ≡ false → first_free s v
    × (vars_hold s vs ≡ false)
vars_parts s (PtrVar x) vs none = insert_holds s.vars x (ptr_vars vs) none
vars_parts s (DatumVar x) vs none = (tt, none)

result_parts : (s : Store) (v : Option VarRef) (vs : List VarRef) → vars_hold s (with_result v vs) ≡ false
    → vars_hold s vs ≡ false
result_parts s None vs none = none
result_parts s (Some v) vs none = (vars_parts s v vs none).1

give_holds : (u s : Store) (v : VarRef) (a : Arg) → first_free u v → HoldsOn u s → Gives (HoldsOn u) (give s v a)
give_holds u s (PtrVar x) (PtrArg q) none h =
    onward_gives (λ w. Unit {0}) (HoldsOn u) (read_op s q) (λ w. Ok (set_var s x w)) (always (read_op s q))
    (λ w this. set_holds u s x w none h)
give_holds u s (PtrVar x) (DataArg q) none h = h
give_holds u s (DatumVar x) (PtrArg q) none h = h
give_holds u s (DatumVar x) (DataArg q) none h =
    onward_gives (λ d. Unit {0}) (HoldsOn u) (read_data_op s q) (λ d. Ok (set_datum s x d)) (always (read_data_op s q))
    (λ d this. record { vars = h.vars; cells = h.cells })

pub enter_holds : (u s : Store) (vs : List VarRef) (ws : List Arg) → vars_hold u vs ≡ false → HoldsOn u s
    → Gives (HoldsOn u) (enter s vs ws)
enter_holds u s [] ws none h = h
enter_holds u s (v ∷ vs) [] none h = h
enter_holds u s (v ∷ vs) (a ∷ ws) none h =
    let parts = vars_parts u v vs none in
    onward_gives (HoldsOn u) (HoldsOn u) (give s v a) (λ t. enter t vs ws) (give_holds u s v a parts.0 h)
    (λ t this. enter_holds u t vs ws parts.1 this)

pub without_holds : (u : Store) (vs : List VarRef) (r : Result Store Fault) → vars_hold u vs ≡ false
    → Gives (HoldsOn u) r → Gives (HoldsOn u) (r >>= (λ t. Ok (without vs t)))
without_holds u vs r none h =
    onward_gives (HoldsOn u) (HoldsOn u) r (λ t. Ok (without vs t)) h
    (λ t this. kill_holds u t (ptr_vars vs) (datum_vars vs) none this)

pub leave_holds : (s : Store) (v : Option VarRef) (vs : List VarRef) (a : Option Arg)
    → vars_hold s (with_result v vs) ≡ false → Gives (HoldsOn s) (leave s v vs a)
leave_holds s v vs a none = without_holds s vs (give_back s v a) (result_parts s v vs none) (given v a none)
  where
    given : (v : Option VarRef) (a : Option Arg) → vars_hold s (with_result v vs) ≡ false
        → Gives (HoldsOn s) (give_back s v a)
    given None a e = holds_same s
    given (Some w) None e = holds_same s
    given (Some w) (Some b) e = give_holds s s w b (vars_parts s w vs e).0 (holds_same s)
