-- Changes of a store that bring no reference but to cells that were reached: a cell that had leaked stays so.
use Rattle.std.proofs.Common.{◌≡◌, ◌⊎◌, inl, inr, ℕ, zero, suc, Bool, true, false, nat_eq, if◌then◌else◌, Result, Ok}
use Rattle.std.proofs.Common.{Err, Option, Some, None, List, [], ◌∷◌, slice_set, slice_index_or, refl, sym, ap, ◌∙◌}
use Rattle.std.proofs.Common.{subst, true≢false}
use Rattle.std.proofs.lemmas.Bool.{eqb-true}
use Rattle.fore_base.specs.declared.fault.Fault.{Fault}
use Rattle.fore_base.specs.declared.fault.Fault.TheVariants.{Leak}
use Rattle.fore_base.specs.declared.shape.Shape.{Shape}
use Rattle.fore_base.specs.declared.store.Value.{Value}
use Rattle.fore_base.specs.declared.store.Value.TheVariants.{Null, Uninit, Dangling, Cell}
use Rattle.fore_base.specs.declared.store.Datum.{Datum}
use Rattle.fore_base.specs.declared.store.CellRec.{CellRec}
use Rattle.fore_base.specs.declared.store.Store.{Store}
use Rattle.fore_base.specs.Lists.{IsIn, Paired}
use Rattle.fore_base.specs.Heap.{Reach, by_var, by_field, Leaked, leaks}
use Rattle.fore_base.specs.Stores.{onward, var_of, datum_of, set_var, set_datum, set_each, kill, field_in, with_field}
use Rattle.fore_base.specs.Stores.{with_datum, walk, write_from, store_datum, freed}
use Rattle.fore_base.proofs.ListLemmas.{paired_same}
use Rattle.fore_base.proofs.Leaks.{leaks_leaked, sound_unleaked}
use Rattle.c_types.specs.declared.mode.MallocMode.{MallocMode}
use Rattle.c_types.specs.declared.program.Path.{Path}
use Rattle.c_types.specs.declared.program.DataPath.{DataPath}
use Rattle.c_types.specs.declared.program.DataPath.TheVariants.{Var as DataVar, Field as DataField}
use Rattle.c_types.specs.declared.program.PtrRhs.{PtrRhs}
use Rattle.c_types.specs.declared.program.PtrRhs.TheVariants.{Path as RhsPath, Null as RhsNull, New as RhsNew}
use Rattle.c_types.specs.declared.program.Act.{Act}
use Rattle.c_types.specs.declared.program.Act.TheVariants.{SetPtr, SetData, Free, Return, Break, Continue}
use Rattle.c_types.specs.declared.program.PtrOp.{PtrOp}
use Rattle.c_types.specs.declared.program.PtrOp.TheVariants.{Path as OpPath, Null as OpNull}
use Rattle.c_types.specs.declared.program.VarRef.{VarRef}
use Rattle.c_types.specs.declared.program.VarRef.TheVariants.{Ptr as PtrVar, Data as DatumVar}
use Rattle.c_types.specs.declared.program.Arg.{Arg}
use Rattle.c_types.specs.declared.program.Arg.TheVariants.{Ptr as PtrArg, Data as DataArg}
use Rattle.c_types.specs.declared.program.Dest.{Dest}
use Rattle.c_types.specs.declared.program.Dest.TheVariants.{Ptr as PtrDest, Data as DataDest}
use Rattle.c_types.specs.Control.{Items, Do, Close, If, Enter, Leave, Exit, Ask}
use Rattle.c_types.specs.Control.{closed_ptrs, closed_datums, after_again, from_again, from_exit}
use Rattle.c_types.specs.Control.{◌then◌}
use Rattle.c_types.specs.Control.{ptr_vars, datum_vars, with_result}
use Rattle.c_types.specs.Steps.{Goes, Faults, read, read_data_rhs, look_at, atom_of, write_path, write_data, assign}
use Rattle.c_types.specs.Steps.{assign_data, free_path, settle, settled, act_turn, test_turn, turn_of}
use Rattle.c_types.specs.Steps.{read_op, read_data_op, give, enter, give_back, without, leave, hand, hand_over, exit}
use Rattle.c_types.specs.Losses.{is_cell, got_cell, assign_loses, act_loses, loses}
use Rattle.c_types.proofs.Fitting.{Gives, always, onward_gives}
use Rattle.c_types.proofs.HeldOn.{place_cell}
use Rattle.c_types.proofs.Turns.{finished_stops}

-- what the value refers to is reached
abbrev pub IsTold : Store → Value → Type 0
IsTold s v = (n : ℕ) → v ≡ Cell n → Reach s n

-- the same cell, and what it refers to it referred to, or it is reached
abbrev pub AddedCell : Store → CellRec → CellRec → Type 0
AddedCell s c d = (d.number ≡ c.number) × ((n : ℕ) → IsIn (Cell n) d.fields → IsIn (Cell n) c.fields ⊎ Reach s n)

-- the same cells, and no reference but to cells that were reached
pub record Adds (s t : Store) : Type 0 where
  pub vars : (n : ℕ) → IsIn (Cell n) t.vars → Reach s n
  pub cells : Paired (AddedCell s) s.cells t.cells

pub record Back (s : Store) (d : CellRec) (cs : List CellRec) : Type 0 where
  pub cell : CellRec
  pub is_there : IsIn cell cs
  pub added : AddedCell s cell d

back : (s : Store) (cs ds : List CellRec) → Paired (AddedCell s) cs ds → (d : CellRec) → IsIn d ds → Back s d cs
back s [] [] p d h = absurd h
back s [] (e ∷ ds) p d h = absurd p
back s (c ∷ cs) [] p d h = absurd p
back s (c ∷ cs) (e ∷ ds) p d (inl is) =
    record { cell = c; is_there = inl refl; added = subst (λ x. AddedCell s c x) (sym is) p.0 }
back s (c ∷ cs) (e ∷ ds) p d (inr h) = let g : Back s d cs = back s cs ds p.1 d h in
    record { cell = g.cell; is_there = inr g.is_there; added = g.added }

pub record Ahead (c : CellRec) (ds : List CellRec) : Type 0 where
  pub cell : CellRec
  pub is_there : IsIn cell ds
  pub same : cell.number ≡ c.number

ahead : (s : Store) (cs ds : List CellRec) → Paired (AddedCell s) cs ds → (c : CellRec) → IsIn c cs → Ahead c ds
ahead s [] [] p c h = absurd h
ahead s [] (d ∷ ds) p c h = absurd p
ahead s (b ∷ cs) [] p c h = absurd p
ahead s (b ∷ cs) (d ∷ ds) p c (inl is) =
    record { cell = d; is_there = inl refl; same = p.0.0 ∙ ap (λ (x : CellRec). x.number) (sym is) }
ahead s (b ∷ cs) (d ∷ ds) p c (inr h) = let g : Ahead c ds = ahead s cs ds p.1 c h in
    record { cell = g.cell; is_there = inr g.is_there; same = g.same }

reach_back : (s t : Store) → Adds s t → {n : ℕ} → Reach t n → Reach s n
reach_back s t a {n} (by_var h) = a.vars n h
reach_back s t a {n} (by_field d there reached field) =
    here (back s s.cells t.cells a.cells d there) (reach_back s t a reached)
  where
    here : Back s d s.cells → Reach s d.number → Reach s n
    here b r = elim (b.added.1 n field)
        [ inl i ↦ by_field b.cell b.is_there (subst (Reach s) b.added.0 r) i | inr far ↦ far ]

-- where some cell had leaked, some has leaked
pub added_leaks : (s t : Store) → Adds s t → leaks s ≡ true → leaks t ≡ true
added_leaks s t a leak = here (leaks t) refl
  where
    leaked : Leaked s → Leaked t
    leaked l =
        let d : Ahead l.cell t.cells = ahead s s.cells t.cells a.cells l.cell l.is_there in
        record {
          cell = d.cell;
          is_there = d.is_there;
          unreached = λ r. l.unreached (subst (Reach s) d.same (reach_back s t a r));
        }

    here : (b : Bool) → leaks t ≡ b → leaks t ≡ true
    here true is = is
    here false is = absurd (sound_unleaked t is (leaked (leaks_leaked s leak)))

same_cells : (s : Store) (cs : List CellRec) → Paired (AddedCell s) cs cs
same_cells s cs = paired_same (AddedCell s) (λ c. (refl, λ n h. inl h)) cs

pub adds_none : (s : Store) → Adds s s
adds_none s = record { vars = λ n h. by_var h; cells = same_cells s s.cells }

in_set : (vs : List Value) (x : ℕ) (v : Value) (n : ℕ) → IsIn (Cell n) (slice_set vs x v) → IsIn (Cell n) vs
    ⊎ (v ≡ Cell n)
in_set [] x v n h = absurd h
in_set (w ∷ vs) zero v n (inl is) = inr (sym is)
in_set (w ∷ vs) zero v n (inr h) = inl (inr h)
in_set (w ∷ vs) (suc x) v n (inl is) = inl (inl is)
in_set (w ∷ vs) (suc x) v n (inr h) = elim (in_set vs x v n h) [ inl i ↦ inl (inr i) | inr e ↦ inr e ]

in_unset : (vs : List Value) (xs : List ℕ) (n : ℕ) → IsIn (Cell n) (set_each vs xs Uninit) → IsIn (Cell n) vs
in_unset vs [] n h = h
in_unset vs (x ∷ xs) n h =
    elim (in_set vs x Uninit n (in_unset (slice_set vs x Uninit) xs n h)) [ inl i ↦ i | inr e ↦ cc ]

pub set_var_adds : (s : Store) (x : ℕ) (v : Value) → IsTold s v → Adds s (set_var s x v)
set_var_adds s x v told =
    record {
      vars = λ n h. elim (in_set s.vars x v n h) [ inl i ↦ by_var i | inr e ↦ told n e ];
      cells = same_cells s s.cells;
    }

pub kill_adds : (s : Store) (ps ds : List ℕ) → Adds s (kill ps ds s)
kill_adds s ps ds = record { vars = λ n h. by_var (in_unset s.vars ps n h); cells = same_cells s s.cells }

pub set_datum_adds : (s : Store) (x : ℕ) (d : Datum) → Adds s (set_datum s x d)
set_datum_adds s x d = record { vars = λ n h. by_var h; cells = same_cells s s.cells }

with_field_added : (s : Store) (n f : ℕ) (v : Value) → IsTold s v → (cs : List CellRec)
    → Paired (AddedCell s) cs (with_field cs n f v)
with_field_added s n f v told [] = tt
with_field_added s n f v told (c ∷ cs) = here (nat_eq c.number n) (with_field_added s n f v told cs)
  where
    here : (b : Bool) → Paired (AddedCell s) cs (with_field cs n f v)
        → Paired (AddedCell s) (c ∷ cs)
        (if b then record c { fields = slice_set c.fields f v } ∷ cs else c ∷ with_field cs n f v)
    here true rest =
        ((refl, λ m h. elim (in_set c.fields f v m h) [ inl i ↦ inl i | inr e ↦ inr (told m e) ]), same_cells s cs)
    here false rest = ((refl, λ m h. inl h), rest)

pub field_adds : (s : Store) (n f : ℕ) (v : Value) → IsTold s v → Adds s (record s { cells = with_field s.cells n f v })
field_adds s n f v told = record { vars = λ m h. by_var h; cells = with_field_added s n f v told s.cells }

with_datum_added : (s : Store) (n f : ℕ) (d : Datum) (cs : List CellRec) → Paired (AddedCell s) cs (with_datum cs n f d)
with_datum_added s n f d [] = tt
with_datum_added s n f d (c ∷ cs) = here (nat_eq c.number n) (with_datum_added s n f d cs)
  where
    here : (b : Bool) → Paired (AddedCell s) cs (with_datum cs n f d)
        → Paired (AddedCell s) (c ∷ cs)
        (if b then record c { datums = slice_set c.datums f d } ∷ cs else c ∷ with_datum cs n f d)
    here true rest = ((refl, λ m h. inl h), same_cells s cs)
    here false rest = ((refl, λ m h. inl h), rest)

pub datum_adds : (s : Store) (n f : ℕ) (d : Datum) → Adds s (record s { cells = with_datum s.cells n f d })
datum_adds s n f d = record { vars = λ m h. by_var h; cells = with_datum_added s n f d s.cells }

-- What is read refers to what is reached

pub var_told : (s : Store) (x : ℕ) → IsTold s (var_of s x)
var_told s x n e = by_var (place_cell s.vars x n e)

field_told_in : (s : Store) (m f n : ℕ) → Reach s m → (cs : List CellRec) → ((c : CellRec) → IsIn c cs → IsIn c s.cells)
    → field_in cs m f ≡ Cell n → Reach s n
field_told_in s m f n reached [] there e = cc
field_told_in s m f n reached (c ∷ cs) there e =
    here (nat_eq c.number m) refl e (field_told_in s m f n reached cs (λ d h. there d (inr h)))
  where
    here : (b : Bool) → nat_eq c.number m ≡ b → (if b then slice_index_or c.fields f Uninit else field_in cs m f)
        ≡ Cell n → (field_in cs m f ≡ Cell n → Reach s n) → Reach s n
    here true is g rest = by_field c (there c (inl refl)) (subst (Reach s) (sym (eqb-true c.number m is)) reached)
        (place_cell c.fields f n g)
    here false is g rest = rest g

field_told : (s : Store) (m f : ℕ) → Reach s m → IsTold s (field_in s.cells m f)
field_told s m f reached n e = field_told_in s m f n reached s.cells (λ c h. h) e

walk_told : (s : Store) (fs : List ℕ) (v w : Value) → IsTold s v → walk s v fs ≡ Ok w → IsTold s w
walk_told s [] v w told e = let same : v ≡ w = cc in subst (IsTold s) same told
walk_told s (f ∷ fs) (Cell m) w told e = walk_told s fs (field_in s.cells m f) w (field_told s m f (told m refl)) e
walk_told s _ _ w told e = cc

pub read_told : (s : Store) (p : Path) (v : Value) → read s p ≡ Ok v → IsTold s v
read_told s p v e = walk_told s p.fields (var_of s p.var) v (var_told s p.var) e

-- A store that the change gives, if it gives one

abbrev AddsAll : Store → Result Store Fault → Type 0
AddsAll s r = (t : Store) → r ≡ Ok t → Adds s t

write_from_adds : (s : Store) (fs : List ℕ) (v : Value) (f : ℕ) (w : Value) → IsTold s w
    → AddsAll s (write_from s v f fs w)
write_from_adds s [] (Cell n) f w told t e = let same : record s { cells = with_field s.cells n f w } ≡ t = cc in
    subst (Adds s) same (field_adds s n f w told)
write_from_adds s (g ∷ gs) (Cell n) f w told t e = write_from_adds s gs (field_in s.cells n f) g w told t e
write_from_adds s _ _ f w told t e = cc

pub write_path_adds : (s : Store) (x : ℕ) (fs : List ℕ) (w : Value) → IsTold s w → AddsAll s (write_path s x fs w)
write_path_adds s x [] w told t e = let same : set_var s x w ≡ t = cc in subst (Adds s) same (set_var_adds s x w told)
write_path_adds s x (f ∷ fs) w told t e = write_from_adds s fs (var_of s x) f w told t e

store_datum_adds : (s : Store) (v : Value) (f : ℕ) (d : Datum) → AddsAll s (store_datum s v f d)
store_datum_adds s (Cell n) f d t e = let same : record s { cells = with_datum s.cells n f d } ≡ t = cc in
    subst (Adds s) same (datum_adds s n f d)
store_datum_adds s _ f d t e = cc

onward_adds : {A : Type 0} (s : Store) (r : Result A Fault) (next : A → Result Store Fault)
    → ((a : A) → r ≡ Ok a → AddsAll s (next a)) → AddsAll s (onward r next)
onward_adds s (Ok a) next rest t e = rest a refl t e
onward_adds s (Err k) next rest t e = cc

null_told : (s : Store) → IsTold s Null
null_told s n e = cc

assign_adds : (shapes : List Shape) (mode : MallocMode) (s : Store) (to : Path) (from : PtrRhs) (x : ℕ)
    → assign_loses s to from ≡ false
    → AddsAll s (assign shapes mode s to from x)
assign_adds shapes mode s to (RhsPath from) x none =
    onward_adds s (read s from) (λ v. write_path s to.var to.fields v)
    (λ v is. write_path_adds s to.var to.fields v (read_told s from v is))
assign_adds shapes mode s to RhsNull x none = write_path_adds s to.var to.fields Null (null_told s)
assign_adds shapes mode s to (RhsNew shape) x none = absurd (true≢false none)

write_data_adds : (s : Store) (to : DataPath) (d : Datum) → AddsAll s (write_data s to d)
write_data_adds s (DataVar x) d t e = let same : set_datum s x d ≡ t = cc in subst (Adds s) same (set_datum_adds s x d)
write_data_adds s (DataField base f) d t e =
    onward_adds s (read s base) (λ v. store_datum s v f d) (λ v is. store_datum_adds s v f d) t e

freed_adds : (s : Store) (v : Value) → is_cell v ≡ false → AddsAll s (freed s v)
freed_adds s Null none t e = let same : s ≡ t = cc in subst (Adds s) same (adds_none s)
freed_adds s Uninit none t e = cc
freed_adds s Dangling none t e = cc
freed_adds s (Cell n) none t e = absurd (true≢false none)

-- Calls: several changes, one after the other

told_before : (u s : Store) (v : Value) → Adds u s → IsTold s v → IsTold u v
told_before u s v a told n e = reach_back u s a (told n e)

set_var_more : (u s : Store) (x : ℕ) (v : Value) → Adds u s → IsTold s v → Adds u (set_var s x v)
set_var_more u s x v a told = record {
  vars = λ n h. elim (in_set s.vars x v n h) [ inl i ↦ a.vars n i | inr e ↦ told_before u s v a told n e ];
  cells = a.cells;
}

kill_more : (u s : Store) (ps ds : List ℕ) → Adds u s → Adds u (kill ps ds s)
kill_more u s ps ds a = record { vars = λ n h. a.vars n (in_unset s.vars ps n h); cells = a.cells }

read_op_told : (s : Store) (q : PtrOp) → Gives (IsTold s) (read_op s q)
read_op_told s OpNull = null_told s
read_op_told s (OpPath q) = here (read s q) refl
  where
    here : (r : Result Value Fault) → read s q ≡ r → Gives (IsTold s) r
    here (Ok v) is = read_told s q v is
    here (Err k) is = tt

give_adds : (u s : Store) (v : VarRef) (a : Arg) → Adds u s → Gives (Adds u) (give s v a)
give_adds u s (PtrVar x) (PtrArg q) a =
    onward_gives (IsTold s) (Adds u) (read_op s q) (λ w. Ok (set_var s x w)) (read_op_told s q)
    (λ w told. set_var_more u s x w a told)
give_adds u s (PtrVar x) (DataArg q) a = a
give_adds u s (DatumVar x) (PtrArg q) a = a
give_adds u s (DatumVar x) (DataArg q) a =
    onward_gives (λ d. Unit {0}) (Adds u) (read_data_op s q) (λ d. Ok (set_datum s x d)) (always (read_data_op s q))
    (λ d this. record { vars = a.vars; cells = a.cells })

enter_adds : (u s : Store) (vs : List VarRef) (ws : List Arg) → Adds u s → Gives (Adds u) (enter s vs ws)
enter_adds u s [] ws a = a
enter_adds u s (v ∷ vs) [] a = a
enter_adds u s (v ∷ vs) (w ∷ ws) a =
    onward_gives (Adds u) (Adds u) (give s v w) (λ t. enter t vs ws) (give_adds u s v w a)
    (λ t this. enter_adds u t vs ws this)

without_adds : (u : Store) (vs : List VarRef) (r : Result Store Fault) → Gives (Adds u) r
    → Gives (Adds u) (onward r (λ t. Ok (without vs t)))
without_adds u vs r a =
    onward_gives (Adds u) (Adds u) r (λ t. Ok (without vs t)) a
    (λ t this. kill_more u t (ptr_vars vs) (datum_vars vs) this)

give_back_adds : (s : Store) (v : Option VarRef) (a : Option Arg) → Gives (Adds s) (give_back s v a)
give_back_adds s None a = adds_none s
give_back_adds s (Some v) None = adds_none s
give_back_adds s (Some v) (Some a) = give_adds s s v a (adds_none s)

gives_all : (s : Store) (r : Result Store Fault) → AddsAll s r → Gives (Adds s) r
gives_all s (Ok t) h = h t refl
gives_all s (Err k) h = tt

all_given : (s : Store) (r : Result Store Fault) → Gives (Adds s) r → AddsAll s r
all_given s (Ok u) h t e = let same : u ≡ t = cc in subst (Adds s) same h
all_given s (Err k) h t e = cc

hand_adds : (s : Store) (v : VarRef) (d : Dest) → Gives (Adds s) (hand s v d)
hand_adds s (PtrVar x) (PtrDest q) =
    gives_all s (write_path s q.var q.fields (var_of s x))
    (write_path_adds s q.var q.fields (var_of s x) (var_told s x))
hand_adds s (PtrVar x) (DataDest q) = adds_none s
hand_adds s (DatumVar x) (PtrDest q) = adds_none s
hand_adds s (DatumVar x) (DataDest q) =
    gives_all s (write_data s q (datum_of s x)) (write_data_adds s q (datum_of s x))

hand_over_adds : (s : Store) (v : Option VarRef) (d : Option Dest) → Gives (Adds s) (hand_over s v d)
hand_over_adds s None d = adds_none s
hand_over_adds s (Some v) None = adds_none s
hand_over_adds s (Some v) (Some d) = hand_adds s v d

-- Turns

leaked_settles : (t : Store) (is js : Items) (u : Store) → leaks t ≡ true → settle t is ≡ Goes js u → ⊥
leaked_settles t is js u leak e = let wrong : Faults Leak ≡ Goes js u = rw leak at e in cc

settled_leaks : (s : Store) (r : Result Store Fault) (is js : Items) (u : Store) → AddsAll s r → leaks s ≡ true
    → settled r is ≡ Goes js u → ⊥
settled_leaks s (Ok t) is js u adds leak e = leaked_settles t is js u (added_leaks s t (adds t refl) leak) e
settled_leaks s (Err k) is js u adds leak e = cc

module _ (shapes : List Shape) (mode : MallocMode) where
  act_leaks : (a : Act) (is js : Items) (s t : Store) (x : ℕ) → act_loses a is s ≡ false → leaks s ≡ true
      → act_turn shapes mode a is s x ≡ Goes js t → ⊥
  act_leaks (SetPtr to from) is js s t x none leak e =
      settled_leaks s (assign shapes mode s to from x) is js t (assign_adds shapes mode s to from x none) leak e
  act_leaks (SetData to from) is js s t x none leak e =
      settled_leaks s (assign_data s to from x) is js t
      (onward_adds s (read_data_rhs s from x) (λ d. write_data s to d) (λ d is. write_data_adds s to d)) leak e
  act_leaks (Free p) is js s t x none leak e =
      settled_leaks s (free_path s p) is js t
      (onward_adds s (read s p) (freed s) (λ v same. freed_adds s v (ap got_cell (sym same) ∙ none))) leak e
  act_leaks (Return operand) is js s t x none leak e = finished_stops (look_at s operand) js t e
  act_leaks Break is js s t x none leak e =
      leaked_settles _ (after_again is) js t (added_leaks s _ (kill_adds s (closed_ptrs is) (closed_datums is)) leak) e
  act_leaks Continue is js s t x none leak e =
      leaked_settles _ (from_again is) js t (added_leaks s _ (kill_adds s (closed_ptrs is) (closed_datums is)) leak) e
  act_leaks _ is js s t x none leak e = cc

  test_leaks : (r : Result Bool Fault) (x y is js : Items) (s t : Store) → leaks s ≡ true → test_turn r x y is s
      ≡ Goes js t → ⊥
  test_leaks (Ok true) x y is js s t leak e = leaked_settles s (x then is) js t leak e
  test_leaks (Ok false) x y is js s t leak e = leaked_settles s (y then is) js t leak e
  test_leaks (Err k) x y is js s t leak e = cc

  -- where some cell had leaked, the step does not go on
  pub turn_leaks : (is js : Items) (s t : Store) (x : ℕ) → loses is s ≡ false → leaks s ≡ true
      → turn_of shapes mode is s x
      ≡ Goes js t → ⊥
  turn_leaks (Do a m is) js s t x none leak e = act_leaks a is js s t x none leak e
  turn_leaks (Close ps ds m is) js s t x none leak e =
      leaked_settles _ is js t (added_leaks s _ (kill_adds s ps ds) leak) e
  turn_leaks (If (Ask a m) y n is) js s t x none leak e = test_leaks (atom_of a s x) y n is js s t leak e
  turn_leaks (Enter vs ws m is) js s t x none leak e =
      settled_leaks s (enter s vs ws) is js t (all_given s (enter s vs ws) (enter_adds s s vs ws (adds_none s))) leak e
  turn_leaks (Leave v vs a m is) js s t x none leak e =
      settled_leaks s (leave s v vs a) (from_exit is) js t
      (all_given s (leave s v vs a) (without_adds s vs (give_back s v a) (give_back_adds s v a))) leak e
  turn_leaks (Exit v vs d m is) js s t x none leak e =
      settled_leaks s (exit s v vs d) is js t
      (all_given s (exit s v vs d)
      (without_adds s (with_result v vs) (hand_over s v d) (hand_over_adds s v d))) leak e
  turn_leaks _ js s t x none leak e = cc
