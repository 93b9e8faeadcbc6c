-- Edges do the same to alike stores.
use Rattle.std.proofs.Common.{◌≡◌, ◌<◌, ◌⊎◌, inl, inr, ℕ, zero, suc, Bool, true, false, nat_eq, if◌then◌else◌}
use Rattle.std.proofs.Common.{List, [], ◌∷◌, ◌++◌, length, map, slice_get, slice_set, slice_index_or}
use Rattle.std.proofs.Common.{option_map, refl, sym, ap, ap₂, ◌∙◌, subst, arith, Option, Some, None, Result, Ok, Err}
use Rattle.std.proofs.lemmas.Bool.{eqb-true, eq-eqb, ne_eqb, cases_eq}
use Rattle.std.proofs.lemmas.List.{map-append, map-set}
use Rattle.std.proofs.lemmas.Option.{slice_get-map}
use Rattle.fore_base.specs.declared.fault.Fault.{Fault}
use Rattle.fore_base.specs.declared.fault.Fault.TheVariants.{Leak}
use Rattle.fore_base.specs.declared.shape.Shape.{Shape}
use Rattle.fore_base.specs.declared.store.Value.{Value}
use Rattle.fore_base.specs.declared.store.Value.TheVariants.{Null, Uninit, Dangling, Cell}
use Rattle.fore_base.specs.declared.store.Datum.{Datum}
use Rattle.fore_base.specs.declared.store.Datum.TheVariants.{Undefined, Known}
use Rattle.fore_base.specs.declared.store.CellRec.{CellRec}
use Rattle.fore_base.specs.declared.store.Store.{Store}
use Rattle.fore_base.specs.Lists.{Every}
use Rattle.fore_base.specs.Stores.{var_of, datum_of, set_var, set_datum, set_each, kill, followed, with_field}
use Rattle.fore_base.specs.Stores.{with_datum, dangle, dangle_in, without, grown, freed}
use Rattle.fore_base.specs.Heap.{HasCell, NamesCell, AllDiffer, IsProper, leaks, value_renamed, cell_renamed, IsAlike}
use Rattle.fore_base.specs.Shapes.{targets_of}
use Rattle.c_types.specs.Steps.{same_values, same_datums, agrees, blank}
use Rattle.c_types.proofs.CellsKept.{without_cell}
use Rattle.c_cfg.specs.declared.graph.PtrArg.{PtrArg}
use Rattle.c_cfg.specs.declared.graph.PtrArg.TheVariants.{Var as PtrVar, Null as PtrNull}
use Rattle.c_cfg.specs.declared.graph.DataArg.{DataArg}
use Rattle.c_cfg.specs.declared.graph.DataArg.TheVariants.{Var as ArgVar, Known as ArgKnown}
use Rattle.c_cfg.specs.declared.graph.Const.{Const}
use Rattle.c_cfg.specs.declared.graph.Const.TheVariants.{Null as ConstNull, Known as ConstKnown}
use Rattle.c_cfg.specs.declared.graph.Instr.{Instr}
use Rattle.c_cfg.specs.declared.graph.Instr.TheVariants.{CopyPtr, LoadPtr, StorePtr, StoreConst, New, Free, Kill}
use Rattle.c_cfg.specs.declared.graph.Instr.TheVariants.{CopyData, LoadData, StoreData, TestPtr, TestData, Choose, Stop}
use Rattle.c_cfg.specs.declared.graph.Edge.{Edge}
use Rattle.c_cfg.specs.Edges.{Pass, Passed, Faulted, Halted, NotPassed, arg_of, data_arg_of, field_of, datum_field_of}
use Rattle.c_cfg.specs.Edges.{struct_of, target_of, same_struct, may_stand, onto, if_there, stored, stored_datum}
use Rattle.c_cfg.specs.Edges.{stored_const, if_agreed, raw_step, leak_tested, choice_of, gstep}
use Rattle.c_cfg.specs.Alike.{LikePass}
use Rattle.c_cfg.proofs.AlikeStores.{unset_renamed}
use Rattle.c_cfg.proofs.Moving.{Moved, moved, permuted, back, moved_has, moved_differ, moved_front, find, moved_find}
use Rattle.c_cfg.proofs.Moving.{put, moved_put, moved_without}
use Rattle.c_cfg.proofs.Properly.{Onward, var_named, raw_proper}
use Rattle.c_cfg.proofs.LeaksAlike.{leaks_alike}

-- The words on cells as `find` and `put`

field_found : (cs : List CellRec) (n f : ℕ) → field_of cs n f ≡ find (λ c. slice_get c.fields f) None cs n
field_found [] n f = refl
field_found (c ∷ cs) n f = ap (λ o. if nat_eq c.number n then slice_get c.fields f else o) (field_found cs n f)

datum_found : (cs : List CellRec) (n f : ℕ) → datum_field_of cs n f ≡ find (λ c. slice_get c.datums f) None cs n
datum_found [] n f = refl
datum_found (c ∷ cs) n f = ap (λ o. if nat_eq c.number n then slice_get c.datums f else o) (datum_found cs n f)

struct_found : (cs : List CellRec) (n : ℕ) → struct_of cs n ≡ find (λ c. Some c.shape) None cs n
struct_found [] n = refl
struct_found (c ∷ cs) n = ap (λ o. if nat_eq c.number n then Some c.shape else o) (struct_found cs n)

with_put : (cs : List CellRec) (n f : ℕ) (v : Value) → with_field cs n f v
    ≡ put (λ c. record c { fields = slice_set c.fields f v }) cs n
with_put [] n f v = refl
with_put (c ∷ cs) n f v =
    ap (λ ds. if nat_eq c.number n then record c { fields = slice_set c.fields f v } ∷ cs else c ∷ ds)
    (with_put cs n f v)

with_datum_put : (cs : List CellRec) (n f : ℕ) (d : Datum) → with_datum cs n f d
    ≡ put (λ c. record c { datums = slice_set c.datums f d }) cs n
with_datum_put [] n f d = refl
with_datum_put (c ∷ cs) n f d =
    ap (λ ds. if nat_eq c.number n then record c { datums = slice_set c.datums f d } ∷ cs else c ∷ ds)
    (with_datum_put cs n f d)

-- Cells under other numbers. Of two cells of the list `all`, numbers are equal after the renaming only if they were
-- before.
module _ (to : ℕ → ℕ) (all : List CellRec) (one : (m n : ℕ) → HasCell all m → HasCell all n → to m ≡ to n → m ≡ n) where
  abbrev val : Value → Value
  val = value_renamed to

  abbrev ren : CellRec → CellRec
  ren = cell_renamed to

  same_number : (m n : ℕ) → HasCell all m → HasCell all n → nat_eq (to m) (to n) ≡ nat_eq m n
  same_number m n hm hn = here (cases_eq m n)
    where
      here : (m ≡ n) ⊎ (m ≡ n → ⊥) → nat_eq (to m) (to n) ≡ nat_eq m n
      here (inl e) = eq-eqb (to m) (to n) (ap to e) ∙ sym (eq-eqb m n e)
      here (inr ne) = ne_eqb (to m) (to n) (λ e. ne (one m n hm hn e)) ∙ sym (ne_eqb m n ne)

  abbrev Within : List CellRec → Type 0
  Within cs = (m : ℕ) → HasCell cs m → HasCell all m

  later : (c : CellRec) (cs : List CellRec) → Within (c ∷ cs) → Within cs
  later c cs w m h = w m (inr h)

  found : {A B : Type 0} (g : CellRec → A) (z : A) (h : CellRec → B) (y : B) (f : B → A)
      → ((c : CellRec) → g (ren c) ≡ f (h c)) → z ≡ f y → (cs : List CellRec) → Within cs → (n : ℕ) → HasCell all n
      → find g z (map ren cs) (to n) ≡ f (find h y cs n)
  found g z h y f each none [] w n hn = none
  found {A} {B} g z h y f each none (c ∷ cs) w n hn =
      rw (same_number c.number n (w c.number (inl refl)) hn)
      (here (nat_eq c.number n) (found g z h y f each none cs (later c cs w) n hn))
    where
      here : (b : Bool) → find g z (map ren cs) (to n) ≡ f (find h y cs n)
          → (if b then g (ren c) else find g z (map ren cs) (to n)) ≡ f (if b then h c else find h y cs n)
      here true e = each c
      here false e = e

  put_renamed : (g h : CellRec → CellRec) → ((c : CellRec) → g (ren c) ≡ ren (h c)) → (cs : List CellRec) → Within cs
      → (n : ℕ) → HasCell all n → put g (map ren cs) (to n) ≡ map ren (put h cs n)
  put_renamed g h each [] w n hn = refl
  put_renamed g h each (c ∷ cs) w n hn =
      rw (same_number c.number n (w c.number (inl refl)) hn)
      (here (nat_eq c.number n) (put_renamed g h each cs (later c cs w) n hn))
    where
      here : (b : Bool) → put g (map ren cs) (to n) ≡ map ren (put h cs n)
          → (if b then g (ren c) ∷ map ren cs else ren c ∷ put g (map ren cs) (to n))
          ≡ map ren (if b then h c ∷ cs else c ∷ put h cs n)
      here true e = ap (λ d. d ∷ map ren cs) (each c)
      here false e = ap (λ ds. ren c ∷ ds) e

  dangle_renamed : (n : ℕ) → HasCell all n → (v : Value) → NamesCell all v → dangle (to n) (val v) ≡ val (dangle n v)
  dangle_renamed n hn (Cell m) h = rw (same_number m n h hn) (here (nat_eq m n))
    where
      here : (b : Bool) → (if b then Dangling else Cell (to m)) ≡ val (if b then Dangling else Cell m)
      here true = refl
      here false = refl
  dangle_renamed n hn _ h = refl

  dangles_renamed : (n : ℕ) → HasCell all n → (vs : List Value) → Every (NamesCell all) vs
      → map (dangle (to n)) (map val vs) ≡ map val (map (dangle n) vs)
  dangles_renamed n hn [] h = refl
  dangles_renamed n hn (v ∷ vs) h = ap₂ (λ x xs. x ∷ xs) (dangle_renamed n hn v h.0) (dangles_renamed n hn vs h.1)

  without_renamed : (cs : List CellRec) → Within cs → Every (λ c. Every (NamesCell all) c.fields) cs → (n : ℕ)
      → HasCell all n → without (to n) (map ren cs) ≡ map ren (without n cs)
  without_renamed [] w h n hn = refl
  without_renamed (c ∷ cs) w h n hn =
      rw (same_number c.number n (w c.number (inl refl)) hn)
      (here (nat_eq c.number n) (without_renamed cs (later c cs w) h.1 n hn))
    where
      here : (b : Bool) → without (to n) (map ren cs) ≡ map ren (without n cs)
          → (if b then without (to n) (map ren cs) else dangle_in (to n) (ren c) ∷ without (to n) (map ren cs))
          ≡ map ren (if b then without n cs else dangle_in n c ∷ without n cs)
      here true e = e
      here false e = ap₂ (λ d ds. d ∷ ds)
          (ap (λ fs. record (ren c) { fields = fs }) (dangles_renamed n hn c.fields h.0)) e

var_renamed : (to : ℕ → ℕ) (vs : List Value) (x : ℕ) → slice_index_or (map (value_renamed to) vs) x Uninit
    ≡ value_renamed to (slice_index_or vs x Uninit)
var_renamed to [] x = refl
var_renamed to (v ∷ vs) zero = refl
var_renamed to (v ∷ vs) (suc x) = var_renamed to vs x

dead_renamed : (to : ℕ → ℕ) (vs : List Value) (ns : List ℕ) → set_each (map (value_renamed to) vs) ns Uninit
    ≡ map (value_renamed to) (set_each vs ns Uninit)
dead_renamed to vs [] = refl
dead_renamed to vs (n ∷ ns) = ap (λ ws. set_each ws ns Uninit) (sym (map-set (value_renamed to) vs n Uninit))
    ∙ dead_renamed to (slice_set vs n Uninit) ns

-- Passes

onto_like : {A : Type 0} (r : Result A Fault) (K J : A → Pass) → ((a : A) → r ≡ Ok a → LikePass (K a) (J a))
    → LikePass (onto r K) (onto r J)
onto_like (Ok a) K J h = h a refl
onto_like (Err k) K J h = refl

there_like : {A B : Type 0} (o : Option A) (f : A → B) (K : A → Pass) (J : B → Pass)
    → ((a : A) → o ≡ Some a → LikePass (K a) (J (f a))) → LikePass (if_there o K) (if_there (option_map f o) J)
there_like (Some a) f K J h = h a refl
there_like None f K J h = tt

there_same : {A : Type 0} (o : Option A) (K J : A → Pass) → ((a : A) → o ≡ Some a → LikePass (K a) (J a))
    → LikePass (if_there o K) (if_there o J)
there_same (Some a) K J h = h a refl
there_same None K J h = tt

follow_like : (to : ℕ → ℕ) (v : Value) (K J : ℕ → Pass) → ((n : ℕ) → v ≡ Cell n → LikePass (K n) (J (to n)))
    → LikePass (onto (followed v) K) (onto (followed (value_renamed to v)) J)
follow_like to (Cell n) K J h = h n refl
follow_like to _ K J h = refl

if_like : (b : Bool) (p q : Pass) → LikePass p q → LikePass (if b then p else NotPassed) (if b then q else NotPassed)
if_like true p q h = h
if_like false p q h = tt

module _ (shapes : List Shape) (s t : Store) (a : IsAlike s t) (ps : IsProper s) (pt : IsProper t) where
  abbrev v_of : Value → Value
  v_of = value_renamed a.to

  abbrev c_of : CellRec → CellRec
  c_of = cell_renamed a.to

  to_t : Moved (map c_of s.cells) t.cells
  to_t = moved (map c_of s.cells) t.cells a.cells

  differ_s : AllDiffer (map c_of s.cells)
  differ_s = moved_differ (back to_t) pt.differ

  itself : (m : ℕ) → HasCell s.cells m → HasCell s.cells m
  itself m h = h

  -- What is read is the same, under the new numbers.

  var_like : (x : ℕ) → var_of t x ≡ v_of (var_of s x)
  var_like x = ap (λ vs. slice_index_or vs x Uninit) a.vars ∙ var_renamed a.to s.vars x

  datum_like : (x : ℕ) → datum_of t x ≡ datum_of s x
  datum_like x = ap (λ ds. slice_index_or ds x Undefined) a.data_vars

  arg_like : (g : PtrArg) → arg_of t g ≡ v_of (arg_of s g)
  arg_like (PtrVar x) = var_like x
  arg_like PtrNull = refl

  data_arg_like : (g : DataArg) → data_arg_of t g ≡ data_arg_of s g
  data_arg_like (ArgVar x) = datum_like x
  data_arg_like (ArgKnown k) = refl

  field_like : (n f : ℕ) → HasCell s.cells n → field_of t.cells (a.to n) f ≡ option_map v_of (field_of s.cells n f)
  field_like n f hn =
      field_found t.cells (a.to n) f ∙ sym (moved_find (λ c. slice_get c.fields f) None (a.to n) to_t differ_s)
      ∙ found a.to s.cells a.one_to_one (λ c. slice_get c.fields f) None (λ c. slice_get c.fields f) None
      (option_map v_of) (λ c. slice_get-map v_of c.fields f) refl s.cells itself n hn
      ∙ ap (option_map v_of) (sym (field_found s.cells n f))

  datum_field_like : (n f : ℕ) → HasCell s.cells n → datum_field_of t.cells (a.to n) f ≡ datum_field_of s.cells n f
  datum_field_like n f hn =
      datum_found t.cells (a.to n) f ∙ sym (moved_find (λ c. slice_get c.datums f) None (a.to n) to_t differ_s)
      ∙ found a.to s.cells a.one_to_one (λ c. slice_get c.datums f) None (λ c. slice_get c.datums f) None (λ o. o)
      (λ c. refl) refl s.cells itself n hn ∙ sym (datum_found s.cells n f)

  struct_like : (n : ℕ) → HasCell s.cells n → struct_of t.cells (a.to n) ≡ struct_of s.cells n
  struct_like n hn =
      struct_found t.cells (a.to n) ∙ sym (moved_find (λ c. Some c.shape) None (a.to n) to_t differ_s)
      ∙ found a.to s.cells a.one_to_one (λ c. Some c.shape) None (λ c. Some c.shape) None (λ o. o) (λ c. refl) refl
      s.cells itself n hn ∙ sym (struct_found s.cells n)

  stand_like : (n f : ℕ) (v : Value) → HasCell s.cells n → NamesCell s.cells v
      → may_stand shapes t.cells (a.to n) f (v_of v) ≡ may_stand shapes s.cells n f v
  stand_like n f (Cell m) hn hv =
      ap₂ (λ x y. same_struct x (target_of shapes y f)) (struct_like m hv) (struct_like n hn)
  stand_like n f _ hn hv = refl

  values_like : (v w : Value) → NamesCell s.cells v → NamesCell s.cells w → same_values (v_of v) (v_of w)
      ≡ same_values v w
  values_like (Cell n) (Cell m) hv hw = ap Ok (same_number a.to s.cells a.one_to_one n m hv hw)
  values_like Null (Cell m) hv hw = refl
  values_like _ _ hv hw = refl

  pointed : (x n : ℕ) → var_of s x ≡ Cell n → HasCell s.cells n
  pointed x n e = subst (NamesCell s.cells) e (var_named s.cells s.vars x ps.vars)

  arg_names : (g : PtrArg) → NamesCell s.cells (arg_of s g)
  arg_names (PtrVar x) = var_named s.cells s.vars x ps.vars
  arg_names PtrNull = tt

  -- What is written is alike.

  set_like : (x : ℕ) (v w : Value) → w ≡ v_of v → IsAlike (set_var s x v) (set_var t x w)
  set_like x v w e = record {
    to = a.to;
    one_to_one = a.one_to_one;
    vars = ap₂ (λ vs z. slice_set vs x z) a.vars e ∙ sym (map-set v_of s.vars x v);
    data_vars = a.data_vars;
    cells = a.cells;
  }

  set_datum_like : (x : ℕ) (d e : Datum) → e ≡ d → IsAlike (set_datum s x d) (set_datum t x e)
  set_datum_like x d e h =
      record {
        to = a.to;
        one_to_one = a.one_to_one;
        vars = a.vars;
        data_vars = ap₂ (λ ds z. slice_set ds x z) a.data_vars h;
        cells = a.cells;
      }

  has_put : (g : CellRec → CellRec) → ((c : CellRec) → (g c).number ≡ c.number) → (cs : List CellRec) (n m : ℕ)
      → HasCell (put g cs n) m → HasCell cs m
  has_put g keeps [] n m h = h
  has_put g keeps (c ∷ cs) n m h = here (nat_eq c.number n) (has_put g keeps cs n m) h
    where
      here : (b : Bool) → (HasCell (put g cs n) m → HasCell cs m) → HasCell (if b then g c ∷ cs else c ∷ put g cs n) m
          → HasCell (c ∷ cs) m
      here true rest (inl e) = inl (sym (keeps c) ∙ e)
      here true rest (inr h) = inr h
      here false rest (inl e) = inl e
      here false rest (inr h) = inr (rest h)

  -- a cell changes on each side, and keeps its number
  put_like : (g h : CellRec → CellRec) (xs ys : List CellRec) → ((c : CellRec) → g (c_of c) ≡ c_of (h c))
      → ((c : CellRec) → (h c).number ≡ c.number) → (n : ℕ) → HasCell s.cells n → xs ≡ put h s.cells n
      → ys ≡ put g t.cells (a.to n) → IsAlike (record s { cells = xs }) (record t { cells = ys })
  put_like g h xs ys each keeps n hn left right =
      subst (λ cs. IsAlike (record s { cells = cs }) (record t { cells = ys })) (sym left)
      (subst (λ cs. IsAlike (record s { cells = put h s.cells n }) (record t { cells = cs })) (sym right)
      (record {
        to = a.to;
        one_to_one = λ m k hm hk e.
            a.one_to_one m k (has_put h keeps s.cells n m hm) (has_put h keeps s.cells n k hk) e;
        vars = a.vars;
        data_vars = a.data_vars;
        cells =
            permuted
            (subst (λ cs. Moved cs (put g t.cells (a.to n)))
            (put_renamed a.to s.cells a.one_to_one g h each s.cells itself n hn) (moved_put g (a.to n) to_t differ_s));
      }))

  field_set_like : (n f : ℕ) (v w : Value) → HasCell s.cells n → w ≡ v_of v
      → IsAlike (record s { cells = with_field s.cells n f v }) (record t { cells = with_field t.cells (a.to n) f w })
  field_set_like n f v w hn e =
      put_like (λ c. record c { fields = slice_set c.fields f w }) (λ c. record c { fields = slice_set c.fields f v }) _
      _ (λ c. ap (λ fs. record (c_of c) { fields = fs })
      (ap (λ z. slice_set (map v_of c.fields) f z) e ∙ sym (map-set v_of c.fields f v))) (λ c. refl) n hn
      (with_put s.cells n f v) (with_put t.cells (a.to n) f w)

  field_datum_like : (n f : ℕ) (d e : Datum) → HasCell s.cells n → e ≡ d
      → IsAlike (record s { cells = with_datum s.cells n f d }) (record t { cells = with_datum t.cells (a.to n) f e })
  field_datum_like n f d e hn h =
      put_like (λ c. record c { datums = slice_set c.datums f e }) (λ c. record c { datums = slice_set c.datums f d }) _
      _ (λ c. ap (λ z. record (c_of c) { datums = slice_set c.datums f z }) h) (λ c. refl) n hn
      (with_datum_put s.cells n f d) (with_datum_put t.cells (a.to n) f e)

  kill_like : (xs ys : List ℕ) → IsAlike (kill xs ys s) (kill xs ys t)
  kill_like xs ys = record {
    to = a.to;
    one_to_one = a.one_to_one;
    vars = ap (λ vs. set_each vs xs Uninit) a.vars ∙ dead_renamed a.to s.vars xs;
    data_vars = ap (λ ds. set_each ds ys Undefined) a.data_vars;
    cells = a.cells;
  }

  free_like : (v : Value) → NamesCell s.cells v → LikePass (onto (freed s v) Passed) (onto (freed t (v_of v)) Passed)
  free_like Null h = a
  free_like Uninit h = refl
  free_like Dangling h = refl
  free_like (Cell n) h = record {
    to = a.to;
    one_to_one = λ m k hm hk e. a.one_to_one m k (without_cell n m s.cells hm) (without_cell n k s.cells hk) e;
    vars = ap (λ vs. map (dangle (a.to n)) vs) a.vars ∙ dangles_renamed a.to s.cells a.one_to_one n h s.vars ps.vars;
    data_vars = a.data_vars;
    cells =
        permuted
        (subst (λ cs. Moved cs (without (a.to n) t.cells))
        (without_renamed a.to s.cells a.one_to_one s.cells itself ps.fields n h) (moved_without (a.to n) to_t));
  }

  -- A new cell gets the next number of each.

  abbrev next_to : ℕ → ℕ
  next_to m = if nat_eq m s.next then t.next else a.to m

  is_below : (next : ℕ) (cs : List CellRec) (m : ℕ) → Every (λ c. c.number < next) cs → HasCell cs m → m < next
  is_below next [] m b h = absurd h
  is_below next (c ∷ cs) m b (inl e) = subst (λ k. k < next) e b.0
  is_below next (c ∷ cs) m b (inr h) = is_below next cs m b.1 h

  old_number : (m : ℕ) → HasCell s.cells m → next_to m ≡ a.to m
  old_number m h = here (nat_eq m s.next) refl
    where
      here : (b : Bool) → nat_eq m s.next ≡ b → (if b then t.next else a.to m) ≡ a.to m
      here true e = let less = is_below s.next s.cells m ps.below h in absurd (omega (arith, less, eqb-true m s.next e))
      here false e = refl

  new_number : next_to s.next ≡ t.next
  new_number = rw (eq-eqb s.next s.next refl) refl

  value_old : (v : Value) → NamesCell s.cells v → value_renamed next_to v ≡ v_of v
  value_old (Cell m) h = ap Cell (old_number m h)
  value_old _ h = refl

  values_old : (vs : List Value) → Every (NamesCell s.cells) vs → map (value_renamed next_to) vs ≡ map v_of vs
  values_old [] h = refl
  values_old (v ∷ vs) h = ap₂ (λ x xs. x ∷ xs) (value_old v h.0) (values_old vs h.1)

  cells_old : (cs : List CellRec) → ((m : ℕ) → HasCell cs m → HasCell s.cells m)
      → Every (λ c. Every (NamesCell s.cells) c.fields) cs → map (cell_renamed next_to) cs ≡ map c_of cs
  cells_old [] w h = refl
  cells_old (c ∷ cs) w h =
      ap₂ (λ d ds. d ∷ ds)
      (ap₂ (λ n fs. record c { number = n; fields = fs }) (old_number c.number (w c.number (inl refl)))
      (values_old c.fields h.0)) (cells_old cs (λ m k. w m (inr k)) h.1)

  new_blank : (shape : ℕ) → cell_renamed next_to (blank shapes s.next shape) ≡ blank shapes t.next shape
  new_blank shape =
      ap₂ (λ n fs. record (blank shapes t.next shape) { number = n; fields = fs }) new_number
      (unset_renamed next_to (length (targets_of shapes shape)))

  old_or_new : (cs : List CellRec) (c : CellRec) (m : ℕ) → HasCell (cs ++ c ∷ []) m → HasCell cs m ⊎ (m ≡ c.number)
  old_or_new [] c m (inl e) = inr (sym e)
  old_or_new [] c m (inr h) = absurd h
  old_or_new (b ∷ cs) c m (inl e) = inl (inl e)
  old_or_new (b ∷ cs) c m (inr h) = elim (old_or_new cs c m h) [ inl k ↦ inl (inr k) | inr e ↦ inr e ]

  renamed_has : (cs : List CellRec) (m : ℕ) → HasCell cs m → HasCell (map c_of cs) (a.to m)
  renamed_has [] m h = absurd h
  renamed_has (c ∷ cs) m (inl e) = inl (ap a.to e)
  renamed_has (c ∷ cs) m (inr h) = inr (renamed_has cs m h)

  -- no cell that was there gets the new one's number
  not_next : (m : ℕ) → HasCell s.cells m → a.to m ≡ t.next → ⊥
  not_next m h e =
      let there : HasCell t.cells (a.to m) = moved_has (a.to m) to_t (renamed_has s.cells m h) in
      let less = is_below t.next t.cells (a.to m) pt.below there in omega (arith, less, e)

  next_one : (shape m n : ℕ) → HasCell (s.cells ++ blank shapes s.next shape ∷ []) m
      → HasCell (s.cells ++ blank shapes s.next shape ∷ []) n → next_to m ≡ next_to n → m ≡ n
  next_one shape m n hm hn e =
      here (old_or_new s.cells (blank shapes s.next shape) m hm) (old_or_new s.cells (blank shapes s.next shape) n hn)
    where
      here : HasCell s.cells m ⊎ (m ≡ s.next) → HasCell s.cells n ⊎ (n ≡ s.next) → m ≡ n
      here (inl h) (inl k) = a.one_to_one m n h k (sym (old_number m h) ∙ e ∙ old_number n k)
      here (inl h) (inr k) = absurd (not_next m h (sym (old_number m h) ∙ e ∙ ap next_to k ∙ new_number))
      here (inr h) (inl k) = absurd (not_next n k (sym (old_number n k) ∙ sym e ∙ ap next_to h ∙ new_number))
      here (inr h) (inr k) = h ∙ sym k

  new_like : (to shape : ℕ)
      → IsAlike (set_var (grown s (blank shapes s.next shape)) to (Cell s.next))
      (set_var (grown t (blank shapes t.next shape)) to (Cell t.next))
  new_like to shape = record {
    to = next_to;
    one_to_one = next_one shape;
    vars = ap₂ (λ vs n. slice_set vs to (Cell n)) (a.vars ∙ sym (values_old s.vars ps.vars)) (sym new_number)
        ∙ sym (map-set (value_renamed next_to) s.vars to (Cell s.next));
    data_vars = a.data_vars;
    cells = permuted (subst (λ cs. Moved cs (t.cells ++ blank shapes t.next shape ∷ []))
        (sym (map-append (cell_renamed next_to) s.cells (blank shapes s.next shape ∷ [])
        ∙ ap₂ (λ cs c. cs ++ c ∷ []) (cells_old s.cells itself ps.fields) (new_blank shape)))
        (moved_front (blank shapes t.next shape ∷ []) to_t));
  }

  -- Edges

  stored_like : (n f : ℕ) (v w : Value) → HasCell s.cells n → NamesCell s.cells v → w ≡ v_of v
      → LikePass (stored shapes s n f v) (stored shapes t (a.to n) f w)
  stored_like n f v w hn hv e =
      rw (field_like n f hn) (there_like (field_of s.cells n f) v_of _ _ (λ old h.
      subst
      (λ b. LikePass (if may_stand shapes s.cells n f v then Passed (record s { cells = with_field s.cells n f v })
      else NotPassed) (if b then Passed (record t { cells = with_field t.cells (a.to n) f w }) else NotPassed))
      (sym (ap (λ z. may_stand shapes t.cells (a.to n) f z) e ∙ stand_like n f v hn hv))
      (if_like (may_stand shapes s.cells n f v) _ _ (field_set_like n f v w hn e))))

  stored_datum_like : (n f : ℕ) (d e : Datum) → HasCell s.cells n → e ≡ d
      → LikePass (stored_datum s n f d) (stored_datum t (a.to n) f e)
  stored_datum_like n f d e hn h =
      rw (datum_field_like n f hn)
      (there_same (datum_field_of s.cells n f) _ _ (λ old k. field_datum_like n f d e hn h))

  stored_const_like : (n f : ℕ) (c : Const) → HasCell s.cells n
      → LikePass (stored_const shapes s n f c) (stored_const shapes t (a.to n) f c)
  stored_const_like n f ConstNull hn = stored_like n f Null Null hn tt refl
  stored_const_like n f (ConstKnown k) hn = stored_datum_like n f (Known k) (Known k) hn refl

  -- what is done at the cell to which a variable points
  at_like : (b : ℕ) (K J : ℕ → Pass) → ((n : ℕ) → HasCell s.cells n → LikePass (K n) (J (a.to n)))
      → LikePass (onto (followed (var_of s b)) K) (onto (followed (var_of t b)) J)
  at_like b K J h = subst (λ v. LikePass (onto (followed (var_of s b)) K) (onto (followed v) J)) (sym (var_like b))
      (follow_like a.to (var_of s b) K J (λ n e. h n (pointed b n e)))

  agreed_like : (equal : Bool) (r q : Result Bool Fault) → q ≡ r
      → LikePass (onto r (λ same. if_agreed equal same s)) (onto q (λ same. if_agreed equal same t))
  agreed_like equal r q e =
      subst (λ z. LikePass (onto r (λ same. if_agreed equal same s)) (onto z (λ same. if_agreed equal same t))) (sym e)
      (onto_like r _ _ (λ same h. if_like (agrees equal same) (Passed s) (Passed t) a))

  raw_like : (i : Instr) (x : ℕ) → LikePass (raw_step shapes i x s) (raw_step shapes i x t)
  raw_like (CopyPtr to from) x = set_like to (arg_of s from) (arg_of t from) (arg_like from)
  raw_like (LoadPtr to b f) x =
      at_like b _ _
      (λ n hn. rw (field_like n f hn) (there_like (field_of s.cells n f) v_of _ _ (λ v h. set_like to v (v_of v) refl)))
  raw_like (StorePtr b f from) x =
      at_like b _ _
      (λ n hn. stored_like n f (var_of s from) (var_of t from) hn (var_named s.cells s.vars from ps.vars)
      (var_like from))
  raw_like (StoreConst b f c) x = at_like b _ _ (λ n hn. stored_const_like n f c hn)
  raw_like (New to shape) x = new_like to shape
  raw_like (Free from) x =
      subst (λ v. LikePass (onto (freed s (var_of s from)) Passed) (onto (freed t v) Passed)) (sym (var_like from))
      (free_like (var_of s from) (var_named s.cells s.vars from ps.vars))
  raw_like (Kill xs ys) x = kill_like xs ys
  raw_like (CopyData to from) x = set_datum_like to (data_arg_of s from) (data_arg_of t from) (data_arg_like from)
  raw_like (LoadData to b f) x =
      at_like b _ _
      (λ n hn. rw (datum_field_like n f hn)
      (there_same (datum_field_of s.cells n f) _ _ (λ d h. set_datum_like to d d refl)))
  raw_like (StoreData b f from) x =
      at_like b _ _ (λ n hn. stored_datum_like n f (datum_of s from) (datum_of t from) hn (datum_like from))
  raw_like (TestPtr l r e) x =
      agreed_like e (same_values (arg_of s l) (arg_of s r)) (same_values (arg_of t l) (arg_of t r))
      (ap₂ same_values (arg_like l) (arg_like r)
      ∙ values_like (arg_of s l) (arg_of s r) (arg_names l) (arg_names r))
  raw_like (TestData l r e) x =
      agreed_like e (same_datums (data_arg_of s l) (data_arg_of s r)) (same_datums (data_arg_of t l) (data_arg_of t r))
      (ap₂ same_datums (data_arg_like l) (data_arg_like r))
  raw_like (Choose None) x = a
  raw_like (Choose (Some to)) x = set_datum_like to (Known x) (Known x) refl
  raw_like (Stop true) x = refl
  raw_like (Stop false) x = tt

tested_like : (p q : Pass) → Onward IsProper p → LikePass p q → LikePass (leak_tested p) (leak_tested q)
tested_like (Passed s) (Passed t) ps a = rw (sym (leaks_alike s t a ps)) (here (leaks s))
  where
    here : (b : Bool) → LikePass (if b then Faulted Leak else Passed s) (if b then Faulted Leak else Passed t)
    here true = refl
    here false = a
tested_like (Faulted k) (Faulted j) ps h = h
tested_like Halted Halted ps h = tt
tested_like NotPassed NotPassed ps h = tt
tested_like _ _ ps h = absurd h

pub steps_alike : (shapes : List Shape) (e : Edge) (s t : Store) → IsProper s → IsProper t → IsAlike s t
    → LikePass (gstep shapes e s) (gstep shapes e t)
steps_alike shapes e s t ps pt a =
    tested_like (raw_step shapes e.instr (choice_of e.choice) s) (raw_step shapes e.instr (choice_of e.choice) t)
    (raw_proper shapes e.instr (choice_of e.choice) s ps) (raw_like shapes s t a ps pt e.instr (choice_of e.choice))
