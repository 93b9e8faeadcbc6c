-- An edge keeps a store proper.
use Rattle.std.proofs.Common.{◌≡◌, inl, inr, ℕ, zero, suc, Bool, true, false, nat_eq, if◌then◌else◌, List, [], ◌∷◌}
use Rattle.std.proofs.Common.{◌++◌, length, map, slice_get, slice_set, slice_index_or, refl, sym, ◌∙◌, subst, Option}
use Rattle.std.proofs.Common.{Some, None, Result, Ok, Err}
use Rattle.fore_base.specs.declared.fault.Fault.{Fault}
use Rattle.fore_base.specs.declared.fault.Fault.TheVariants.{Leak}
use Rattle.fore_base.specs.declared.shape.Shape.{Shape}
use Rattle.fore_base.specs.declared.store.Value.{Value}
use Rattle.fore_base.specs.declared.store.Value.TheVariants.{Null, Uninit, Dangling, Cell}
use Rattle.fore_base.specs.declared.store.Datum.{Datum}
use Rattle.fore_base.specs.declared.store.Datum.TheVariants.{Known}
use Rattle.fore_base.specs.declared.store.CellRec.{CellRec}
use Rattle.fore_base.specs.declared.store.Store.{Store}
use Rattle.fore_base.specs.Lists.{Every}
use Rattle.fore_base.specs.Stores.{var_of, datum_of, set_var, set_datum, set_each, kill, followed, with_field}
use Rattle.fore_base.specs.Stores.{with_datum, dangle, dangle_in, without, grown, freed}
use Rattle.fore_base.specs.Heap.{HasCell, NamesCell, IsProper, leaks}
use Rattle.fore_base.proofs.ListLemmas.{every_set, every_copy, every_append, every_weaker}
use Rattle.fore_base.specs.Shapes.{targets_of}
use Rattle.c_types.specs.Steps.{agrees, blank}
use Rattle.c_types.specs.Runs.{empty_store}
use Rattle.c_types.proofs.CellsKept.{heads_with, heads_with_datum, heads_differ, heads_below, without_differ}
use Rattle.c_types.proofs.CellsKept.{without_below, append_differ, append_below}
use Rattle.c_cfg.specs.declared.graph.PtrArg.{PtrArg}
use Rattle.c_cfg.specs.declared.graph.PtrArg.TheVariants.{Var as PtrVar, Null as PtrNull}
use Rattle.c_cfg.specs.declared.graph.Const.TheVariants.{Null as ConstNull, Known as ConstKnown}
use Rattle.c_cfg.specs.declared.graph.Instr.{Instr}
use Rattle.c_cfg.specs.declared.graph.Instr.TheVariants.{CopyPtr, LoadPtr, StorePtr, StoreConst, New, Free, Kill}
use Rattle.c_cfg.specs.declared.graph.Instr.TheVariants.{CopyData, LoadData, StoreData, TestPtr, TestData, Choose, Stop}
use Rattle.c_cfg.specs.declared.graph.Edge.{Edge}
use Rattle.c_cfg.specs.Edges.{Pass, Passed, Faulted, Halted, NotPassed, arg_of, field_of, datum_field_of, may_stand}
use Rattle.c_cfg.specs.Edges.{onto, if_there, stored, stored_datum, if_agreed, raw_step, leak_tested, choice_of, gstep}

-- where an edge passes, P holds of what it passes to
abbrev pub Onward : (Store → Type 0) → Pass → Type 0
Onward P (Passed s) = P s
Onward P (Faulted k) = Unit {0}
Onward P Halted = Unit {0}
Onward P NotPassed = Unit {0}

onto_onward : {A : Type 0} (P : Store → Type 0) (r : Result A Fault) (next : A → Pass)
    → ((a : A) → r ≡ Ok a → Onward P (next a)) → Onward P (onto r next)
onto_onward P (Ok a) next h = h a refl
onto_onward P (Err k) next h = tt

there_onward : {A : Type 0} (P : Store → Type 0) (o : Option A) (next : A → Pass)
    → ((a : A) → o ≡ Some a → Onward P (next a)) → Onward P (if_there o next)
there_onward P (Some a) next h = h a refl
there_onward P None next h = tt

-- Values that name cells

pub var_named : (cs : List CellRec) (vs : List Value) (x : ℕ) → Every (NamesCell cs) vs
    → NamesCell cs (slice_index_or vs x Uninit)
var_named cs [] x h = tt
var_named cs (v ∷ vs) zero h = h.0
var_named cs (v ∷ vs) (suc x) h = var_named cs vs x h.1

got_named : (cs : List CellRec) (vs : List Value) (x : ℕ) (v : Value) → Every (NamesCell cs) vs
    → slice_get vs x ≡ Some v → NamesCell cs v
got_named cs [] x v h e = cc
got_named cs (w ∷ vs) zero v h e = let same : w ≡ v = cc in subst (NamesCell cs) same h.0
got_named cs (w ∷ vs) (suc x) v h e = got_named cs vs x v h.1 e

abbrev FieldsNamed : List CellRec → List CellRec → Type 0
FieldsNamed all cs = Every (λ c. Every (NamesCell all) c.fields) cs

pub field_named : (all cs : List CellRec) (n f : ℕ) (v : Value) → FieldsNamed all cs → field_of cs n f ≡ Some v
    → NamesCell all v
field_named all [] n f v h e = cc
field_named all (c ∷ cs) n f v h e = here (nat_eq c.number n) (field_named all cs n f v h.1) e
  where
    here : (b : Bool) → (field_of cs n f ≡ Some v → NamesCell all v)
        → (if b then slice_get c.fields f else field_of cs n f) ≡ Some v → NamesCell all v
    here true rest e = got_named all c.fields f v h.0 e
    here false rest e = rest e

module _ (cs ds : List CellRec) (kept : (m : ℕ) → HasCell cs m → HasCell ds m) where
  named_moved : (v : Value) → NamesCell cs v → NamesCell ds v
  named_moved (Cell n) h = kept n h
  named_moved _ h = tt

  vars_moved : (vs : List Value) → Every (NamesCell cs) vs → Every (NamesCell ds) vs
  vars_moved vs h = every_weaker (NamesCell cs) (NamesCell ds) vs named_moved h

  fields_moved : (es : List CellRec) → FieldsNamed cs es → FieldsNamed ds es
  fields_moved es h = every_weaker (λ c. Every (NamesCell cs) c.fields) (λ c. Every (NamesCell ds) c.fields) es
      (λ c. vars_moved c.fields) h

-- a cell that stands in the place of one of its number, or after it
has_put : (b : Bool) (c d : CellRec) (cs ds : List CellRec) (m : ℕ) → d.number ≡ c.number
    → (HasCell cs m → HasCell ds m) → HasCell (c ∷ cs) m → HasCell (if b then d ∷ cs else c ∷ ds) m
has_put true c d cs ds m same rest (inl e) = inl (same ∙ e)
has_put false c d cs ds m same rest (inl e) = inl e
has_put true c d cs ds m same rest (inr h) = inr h
has_put false c d cs ds m same rest (inr h) = inr (rest h)

has_with : (n f : ℕ) (v : Value) (cs : List CellRec) (m : ℕ) → HasCell cs m → HasCell (with_field cs n f v) m
has_with n f v [] m h = absurd h
has_with n f v (c ∷ cs) m h = has_put (nat_eq c.number n) c (record c { fields = slice_set c.fields f v }) cs
    (with_field cs n f v) m refl (has_with n f v cs m) h

has_with_datum : (n f : ℕ) (d : Datum) (cs : List CellRec) (m : ℕ) → HasCell cs m → HasCell (with_datum cs n f d) m
has_with_datum n f d [] m h = absurd h
has_with_datum n f d (c ∷ cs) m h = has_put (nat_eq c.number n) c (record c { datums = slice_set c.datums f d }) cs
    (with_datum cs n f d) m refl (has_with_datum n f d cs m) h

fields_with : (all : List CellRec) (n f : ℕ) (v : Value) (cs : List CellRec) → NamesCell all v → FieldsNamed all cs
    → FieldsNamed all (with_field cs n f v)
fields_with all n f v [] w h = tt
fields_with all n f v (c ∷ cs) w h = here (nat_eq c.number n) (fields_with all n f v cs w h.1)
  where
    here : (b : Bool) → FieldsNamed all (with_field cs n f v)
        → FieldsNamed all (if b then record c { fields = slice_set c.fields f v } ∷ cs else c ∷ with_field cs n f v)
    here true rest = (every_set (NamesCell all) c.fields f v h.0 w, h.1)
    here false rest = (h.0, rest)

fields_with_datum : (all : List CellRec) (n f : ℕ) (d : Datum) (cs : List CellRec) → FieldsNamed all cs
    → FieldsNamed all (with_datum cs n f d)
fields_with_datum all n f d [] h = tt
fields_with_datum all n f d (c ∷ cs) h = here (nat_eq c.number n) (fields_with_datum all n f d cs h.1)
  where
    here : (b : Bool) → FieldsNamed all (with_datum cs n f d)
        → FieldsNamed all (if b then record c { datums = slice_set c.datums f d } ∷ cs else c ∷ with_datum cs n f d)
    here true rest = h
    here false rest = (h.0, rest)

-- The end of a cell

has_without : (n m : ℕ) (cs : List CellRec) → nat_eq m n ≡ false → HasCell cs m → HasCell (without n cs) m
has_without n m [] other h = absurd h
has_without n m (c ∷ cs) other (inl e) =
    let stays : nat_eq c.number n ≡ false = subst (λ k. nat_eq k n ≡ false) (sym e) other in rw stays (inl e)
has_without n m (c ∷ cs) other (inr h) = here (nat_eq c.number n) (has_without n m cs other h)
  where
    here : (b : Bool) → HasCell (without n cs) m → HasCell (if b then without n cs else dangle_in n c ∷ without n cs) m
    here true rest = rest
    here false rest = inr rest

dangle_named : (n : ℕ) (cs : List CellRec) (v : Value) → NamesCell cs v → NamesCell (without n cs) (dangle n v)
dangle_named n cs (Cell m) h = here (nat_eq m n) refl
  where
    here : (b : Bool) → nat_eq m n ≡ b → NamesCell (without n cs) (if b then Dangling else Cell m)
    here true is = tt
    here false is = has_without n m cs is h
dangle_named n cs _ h = tt

vars_dangle : (n : ℕ) (cs : List CellRec) (vs : List Value) → Every (NamesCell cs) vs
    → Every (NamesCell (without n cs)) (map (dangle n) vs)
vars_dangle n cs [] h = tt
vars_dangle n cs (v ∷ vs) h = (dangle_named n cs v h.0, vars_dangle n cs vs h.1)

fields_without : (n : ℕ) (all cs : List CellRec) → FieldsNamed all cs → FieldsNamed (without n all) (without n cs)
fields_without n all [] h = tt
fields_without n all (c ∷ cs) h = here (nat_eq c.number n) (fields_without n all cs h.1)
  where
    here : (b : Bool) → FieldsNamed (without n all) (without n cs)
        → FieldsNamed (without n all) (if b then without n cs else dangle_in n c ∷ without n cs)
    here true rest = rest
    here false rest = (vars_dangle n all c.fields h.0, rest)

-- A new cell

has_front : (cs : List CellRec) (c : CellRec) (m : ℕ) → HasCell cs m → HasCell (cs ++ c ∷ []) m
has_front [] c m h = absurd h
has_front (b ∷ cs) c m (inl e) = inl e
has_front (b ∷ cs) c m (inr h) = inr (has_front cs c m h)

has_last : (cs : List CellRec) (c : CellRec) → HasCell (cs ++ c ∷ []) c.number
has_last [] c = inl refl
has_last (b ∷ cs) c = inr (has_last cs c)

-- Stores

var_set : (s : Store) (x : ℕ) (v : Value) → IsProper s → NamesCell s.cells v → IsProper (set_var s x v)
var_set s x v p w = record
    { differ = p.differ; below = p.below; vars = every_set (NamesCell s.cells) s.vars x v p.vars w; fields = p.fields }

datum_set : (s : Store) (x : ℕ) (d : Datum) → IsProper s → IsProper (set_datum s x d)
datum_set s x d p = record { differ = p.differ; below = p.below; vars = p.vars; fields = p.fields }

field_set : (s : Store) (n f : ℕ) (v : Value) → IsProper s → NamesCell s.cells v
    → IsProper (record s { cells = with_field s.cells n f v })
field_set s n f v p w =
    let new : List CellRec = with_field s.cells n f v in
    let kept : (m : ℕ) → HasCell s.cells m → HasCell new m = has_with n f v s.cells in
    record {
      differ = heads_differ s.cells new (heads_with n f v s.cells) p.differ;
      below = heads_below s.next s.cells new (heads_with n f v s.cells) p.below;
      vars = vars_moved s.cells new kept s.vars p.vars;
      fields = fields_with new n f v s.cells (named_moved s.cells new kept v w)
          (fields_moved s.cells new kept s.cells p.fields);
    }

field_datum_set : (s : Store) (n f : ℕ) (d : Datum) → IsProper s
    → IsProper (record s { cells = with_datum s.cells n f d })
field_datum_set s n f d p =
    let new : List CellRec = with_datum s.cells n f d in
    let kept : (m : ℕ) → HasCell s.cells m → HasCell new m = has_with_datum n f d s.cells in
    record {
      differ = heads_differ s.cells new (heads_with_datum n f d s.cells) p.differ;
      below = heads_below s.next s.cells new (heads_with_datum n f d s.cells) p.below;
      vars = vars_moved s.cells new kept s.vars p.vars;
      fields = fields_with_datum new n f d s.cells (fields_moved s.cells new kept s.cells p.fields);
    }

vars_dead : (cs : List CellRec) (vs : List Value) (ns : List ℕ) → Every (NamesCell cs) vs
    → Every (NamesCell cs) (set_each vs ns Uninit)
vars_dead cs vs [] h = h
vars_dead cs vs (n ∷ ns) h = vars_dead cs (slice_set vs n Uninit) ns (every_set (NamesCell cs) vs n Uninit h tt)

killed : (ps ds : List ℕ) (s : Store) → IsProper s → IsProper (kill ps ds s)
killed ps ds s p = record
    { differ = p.differ; below = p.below; vars = vars_dead s.cells s.vars ps p.vars; fields = p.fields }

grown_proper : (shapes : List Shape) (s : Store) (shape : ℕ) → IsProper s
    → IsProper (grown s (blank shapes s.next shape))
grown_proper shapes s shape p =
    let c : CellRec = blank shapes s.next shape in
    let new : List CellRec = s.cells ++ c ∷ [] in
    let kept : (m : ℕ) → HasCell s.cells m → HasCell new m = has_front s.cells c in
    record {
      differ = append_differ s.next s.cells c refl p.below p.differ;
      below = append_below s.next s.cells c refl p.below;
      vars = vars_moved s.cells new kept s.vars p.vars;
      fields = every_append (λ d. Every (NamesCell new) d.fields) s.cells (c ∷ [])
          (fields_moved s.cells new kept s.cells p.fields)
          (every_copy (NamesCell new) (length (targets_of shapes shape)) Uninit tt, tt);
    }

freed_proper : (s : Store) (v : Value) → IsProper s → Onward IsProper (onto (freed s v) Passed)
freed_proper s Null p = p
freed_proper s Uninit p = tt
freed_proper s Dangling p = tt
freed_proper s (Cell n) p = record {
  differ = without_differ n s.cells p.differ;
  below = without_below n s.next s.cells p.below;
  vars = vars_dangle n s.cells s.vars p.vars;
  fields = fields_without n s.cells s.cells p.fields;
}

-- Edges

arg_named : (s : Store) (a : PtrArg) → IsProper s → NamesCell s.cells (arg_of s a)
arg_named s (PtrVar x) p = var_named s.cells s.vars x p.vars
arg_named s PtrNull p = tt

agreed_proper : (e same : Bool) (s : Store) → IsProper s → Onward IsProper (if_agreed e same s)
agreed_proper e same s p = here (agrees e same)
  where
    here : (b : Bool) → Onward IsProper (if b then Passed s else NotPassed)
    here true = p
    here false = tt

stored_proper : (shapes : List Shape) (s : Store) (n f : ℕ) (v : Value) → IsProper s → NamesCell s.cells v
    → Onward IsProper (stored shapes s n f v)
stored_proper shapes s n f v p w =
    there_onward IsProper (field_of s.cells n f) _ (λ old e. here (may_stand shapes s.cells n f v))
  where
    here : (b : Bool) → Onward IsProper
        (if b then Passed (record s { cells = with_field s.cells n f v }) else NotPassed)
    here true = field_set s n f v p w
    here false = tt

stored_datum_proper : (s : Store) (n f : ℕ) (d : Datum) → IsProper s → Onward IsProper (stored_datum s n f d)
stored_datum_proper s n f d p =
    there_onward IsProper (datum_field_of s.cells n f) _ (λ old e. field_datum_set s n f d p)

pub raw_proper : (shapes : List Shape) (i : Instr) (x : ℕ) (s : Store) → IsProper s
    → Onward IsProper (raw_step shapes i x s)
raw_proper shapes (CopyPtr to from) x s p = var_set s to (arg_of s from) p (arg_named s from p)
raw_proper shapes (LoadPtr to b f) x s p =
    onto_onward IsProper (followed (var_of s b)) _
    (λ n e. there_onward IsProper (field_of s.cells n f) _
    (λ v h. var_set s to v p (field_named s.cells s.cells n f v p.fields h)))
raw_proper shapes (StorePtr b f from) x s p =
    onto_onward IsProper (followed (var_of s b)) _
    (λ n e. stored_proper shapes s n f (var_of s from) p (var_named s.cells s.vars from p.vars))
raw_proper shapes (StoreConst b f ConstNull) x s p =
    onto_onward IsProper (followed (var_of s b)) _ (λ n e. stored_proper shapes s n f Null p tt)
raw_proper shapes (StoreConst b f (ConstKnown k)) x s p =
    onto_onward IsProper (followed (var_of s b)) _ (λ n e. stored_datum_proper s n f (Known k) p)
raw_proper shapes (New to shape) x s p =
    let c : CellRec = blank shapes s.next shape in
    var_set (grown s c) to (Cell s.next) (grown_proper shapes s shape p) (has_last s.cells c)
raw_proper shapes (Free from) x s p = freed_proper s (var_of s from) p
raw_proper shapes (Kill ps ds) x s p = killed ps ds s p
raw_proper shapes (CopyData to from) x s p = datum_set s to _ p
raw_proper shapes (LoadData to b f) x s p =
    onto_onward IsProper (followed (var_of s b)) _
    (λ n e. there_onward IsProper (datum_field_of s.cells n f) _ (λ d h. datum_set s to d p))
raw_proper shapes (StoreData b f from) x s p =
    onto_onward IsProper (followed (var_of s b)) _ (λ n e. stored_datum_proper s n f (datum_of s from) p)
raw_proper shapes (TestPtr l r e) x s p = onto_onward IsProper _ _ (λ same h. agreed_proper e same s p)
raw_proper shapes (TestData l r e) x s p = onto_onward IsProper _ _ (λ same h. agreed_proper e same s p)
raw_proper shapes (Choose None) x s p = p
raw_proper shapes (Choose (Some to)) x s p = datum_set s to (Known x) p
raw_proper shapes (Stop true) x s p = tt
raw_proper shapes (Stop false) x s p = tt

tested_proper : (q : Pass) → Onward IsProper q → Onward IsProper (leak_tested q)
tested_proper (Passed s) h = here (leaks s)
  where
    here : (b : Bool) → Onward IsProper (if b then Faulted Leak else Passed s)
    here true = tt
    here false = h
tested_proper _ h = tt

pub steps_proper : (shapes : List Shape) (e : Edge) (s t : Store) → IsProper s → gstep shapes e s ≡ Passed t
    → IsProper t
steps_proper shapes e s t p h =
    subst (Onward IsProper) h
    (tested_proper (raw_step shapes e.instr (choice_of e.choice) s)
    (raw_proper shapes e.instr (choice_of e.choice) s p))

pub empty_proper : (ptrs datums : ℕ) → IsProper (empty_store ptrs datums)
empty_proper ptrs datums =
    record { differ = tt; below = tt; vars = every_copy (NamesCell []) ptrs Uninit tt; fields = tt }
