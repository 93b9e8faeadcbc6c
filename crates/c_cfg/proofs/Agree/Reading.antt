-- The edges that read a path or a datum into temporaries read what the program does.
use Rattle.std.proofs.Common.{◌≡◌, ◌<◌, ◌+◌, ℕ, zero, suc, true, false, nat_lt, Option, Some, None, Result, Ok, Err}
use Rattle.std.proofs.Common.{List, [], ◌∷◌, ◌++◌, length, refl, sym, ap, ◌∙◌, subst, true≢false, arith}
use Rattle.std.proofs.lemmas.Bool.Decides.{nat_tests}
use Rattle.fore_base.specs.declared.fault.Fault.{Fault}
use Rattle.fore_base.specs.declared.store.Value.{Value}
use Rattle.fore_base.specs.declared.store.Value.TheVariants.{Uninit}
use Rattle.fore_base.specs.declared.store.Datum.{Datum}
use Rattle.fore_base.specs.declared.store.Datum.TheVariants.{Undefined}
use Rattle.fore_base.specs.declared.store.CellRec.{CellRec}
use Rattle.fore_base.specs.declared.store.Store.{Store}
use Rattle.fore_base.specs.Stores.{onward, var_of, datum_of, set_var, set_datum, load, load_datum, walk}
use Rattle.fore_base.specs.Heap.{leaks}
use Rattle.fore_base.specs.Shapes.{datums_of}
use Rattle.c_types.specs.declared.program.VarDef.{VarDef}
use Rattle.c_types.specs.declared.program.Path.{Path}
use Rattle.c_types.specs.declared.program.DataPath.{DataPath}
use Rattle.c_types.specs.declared.program.DataPath.TheVariants.{Var as DataVar, Field as DataField}
use Rattle.c_types.specs.Program.{Program, path_target, has_datum, data_typed}
use Rattle.c_types.specs.Fits.{PointsTo, PointsToEach, var_targets}
use Rattle.c_types.specs.Steps.{read, read_data}
use Rattle.c_types.proofs.CellsFit.{IsAt, get_points}
use Rattle.c_types.proofs.Fitting.{Leads, PathLeads, path_leads, Sound, Gives, read_gives}
use Rattle.c_cfg.specs.declared.graph.Instr.TheVariants.{LoadData}
use Rattle.c_cfg.specs.Edges.{Pass, Passed, onto, leak_tested}
use Rattle.c_cfg.specs.Links.{Link, One, loads, holder, data_loads, data_holder}
use Rattle.c_cfg.proofs.Agree.Temporaries.{ext, Sized, var_ext, datum_ext, p0_holds, p1_holds, d0_holds, d1_holds}
use Rattle.c_cfg.proofs.Agree.Temporaries.{p0_set, p1_set, d0_set, d1_set}
use Rattle.c_cfg.proofs.Agree.Passing.{then_pass, links_pass, links_append, then_onto, onto_same, onto_onward}
use Rattle.c_cfg.proofs.Agree.OneEdges.{load_points, load_raw, load_datum_raw}

-- Variables of a well typed program

at_less : (vars : List VarDef) (x t : ℕ) → IsAt (var_targets vars) x t → x < length vars
at_less [] x t at = absurd at
at_less (v ∷ vars) zero t at = omega arith
at_less (v ∷ vars) (suc x) t at = omega (arith, at_less vars x t at)

pub path_less : (p : Program) (q : Path) (u : ℕ) → PathLeads p q u → q.var < length p.vars
path_less p q u path = at_less p.vars q.var path.first path.is_var

each_long : (cs : List CellRec) (vars : List VarDef) (vs : List Value) → PointsToEach cs (var_targets vars) vs
    → length vs ≡ length vars
each_long cs [] [] points = refl
each_long cs [] (v ∷ vs) points = absurd points
each_long cs (t ∷ vars) [] points = absurd points
each_long cs (t ∷ vars) (v ∷ vs) points = ap suc (each_long cs vars vs points.1)

pub sound_sized : (p : Program) (s : Store) → Sound p s → Sized (length p.vars) (length p.data_vars) s
sound_sized p s sound = record { ptrs = each_long s.cells p.vars s.vars sound.vars; datums = sound.data_vars }

-- a pair of temporaries, p0 and d0 or p1 and d1, of a store that does not leak whatever they hold
pub record Slot (nv nd : ℕ) (s : Store) (t d : ℕ) (put : Value → Datum → Store) : Type 0 where
  pub holds : (v : Value) (e : Datum) → var_of (put v e) t ≡ v
  pub sets : (v w : Value) (e : Datum) → set_var (put v e) t w ≡ put w e
  pub holds_datum : (v : Value) (e : Datum) → datum_of (put v e) d ≡ e
  pub sets_datum : (v : Value) (e k : Datum) → set_datum (put v e) d k ≡ put v k
  pub clear : (v : Value) (e : Datum) → leaks (put v e) ≡ false
  pub cells : (v : Value) (e : Datum) → (put v e).cells ≡ s.cells
  pub var : (v : Value) (e : Datum) (b : ℕ) → b < nv → var_of (put v e) b ≡ var_of s b
  pub datum : (v : Value) (e : Datum) (b : ℕ) → b < nd → datum_of (put v e) b ≡ datum_of s b

pub first_slot : (nv nd : ℕ) (s : Store) → Sized nv nd s → (y : Value) (e : Datum)
    → ((v : Value) (d : Datum) → leaks (ext s v y d e) ≡ false) → Slot nv nd s nv nd (λ v d. ext s v y d e)
first_slot nv nd s z y e clear = record {
  holds = λ v d. p0_holds nv nd s z v y d e;
  sets = λ v w d. p0_set nv nd s z v y d e w;
  holds_datum = λ v d. d0_holds nv nd s z v y d e;
  sets_datum = λ v d k. d0_set nv nd s z v y d e k;
  clear = clear;
  cells = λ v d. refl;
  var = λ v d b less. var_ext nv nd s z v y d e b less;
  datum = λ v d b less. datum_ext nv nd s z v y d e b less;
}

pub second_slot : (nv nd : ℕ) (s : Store) → Sized nv nd s → (x : Value) (d : Datum)
    → ((v : Value) (e : Datum) → leaks (ext s x v d e) ≡ false) → Slot nv nd s (nv + 1) (nd + 1) (λ v e. ext s x v d e)
second_slot nv nd s z x d clear = record {
  holds = λ v e. p1_holds nv nd s z x v d e;
  sets = λ v w e. p1_set nv nd s z x v d e w;
  holds_datum = λ v e. d1_holds nv nd s z x v d e;
  sets_datum = λ v e k. d1_set nv nd s z x v d e k;
  clear = clear;
  cells = λ v e. refl;
  var = λ v e b less. var_ext nv nd s z x v d e b less;
  datum = λ v e b less. datum_ext nv nd s z x v d e b less;
}

-- what a temporary that held z holds after a path was read: a path without arrows does not use it
abbrev pub held_or : Value → List ℕ → Value → Value
held_or z [] v = z
held_or z (f ∷ fs) v = v

abbrev pub held : List ℕ → Value → Value
held fs v = held_or Uninit fs v

-- what a reading gave
abbrev pub value_of : Result Value Fault → Value
value_of (Ok v) = v
value_of (Err k) = Uninit

abbrev pub base_held : Store → DataPath → Value
base_held s (DataVar x) = Uninit
base_held s (DataField base f) = held base.fields (value_of (read s base))

abbrev pub data_held : DataPath → Datum → Datum
data_held (DataVar x) d = Undefined
data_held (DataField base f) d = d

-- a typed data field is there
pub record FieldTyped (p : Program) (base : Path) (f : ℕ) : Type 0 where
  pub struct : ℕ
  pub leads : PathLeads p base struct
  pub less : f < datums_of p.shapes.structs struct

pub field_typed : (p : Program) (base : Path) (f : ℕ)
    → data_typed p.shapes.structs p.vars (length p.data_vars) (DataField base f) ≡ true → FieldTyped p base f
field_typed p base f e = here (path_target p.shapes.structs p.vars (length p.data_vars) base) refl
  where
    here : (o : Option ℕ) → path_target p.shapes.structs p.vars (length p.data_vars) base ≡ o → FieldTyped p base f
    here None is = absurd (true≢false (sym (ap (λ o. has_datum p.shapes.structs o f) (sym is) ∙ e)))
    here (Some u) is =
        let small : nat_lt f (datums_of p.shapes.structs u) ≡ true = ap (λ o. has_datum p.shapes.structs o f) (sym is)
        ∙ e in
        record { struct = u; leads = path_leads p base u is; less = grind (arith, nat_tests) }

pub data_var_less : (p : Program) (x : ℕ) → data_typed p.shapes.structs p.vars (length p.data_vars) (DataVar x) ≡ true
    → x < length p.data_vars
data_var_less p x e = let small : nat_lt x (length p.data_vars) ≡ true = e in grind (arith, nat_tests)

module _ (p : Program) (s : Store) (sound : Sound p s) (choice : ℕ) where
  abbrev run : List Link → Store → Pass
  run ls g = links_pass p.shapes.structs choice ls g

  pub read_points : (q : Path) (u : ℕ) (v : Value) → PathLeads p q u → read s q ≡ Ok v → PointsTo s.cells u v
  read_points q u v path e =
      subst (λ (r : Result Value Fault). Gives (PointsTo s.cells u) r) e (read_gives p s q u sound path)

  pub var_points : (q : Path) (u : ℕ) → (path : PathLeads p q u) → PointsTo s.cells path.first (var_of s q.var)
  var_points q u path = get_points s.cells (var_targets p.vars) s.vars q.var path.first sound.vars path.is_var

  module _ (t d : ℕ) (put : Value → Datum → Store) (slot : Slot (length p.vars) (length p.data_vars) s t d put)
      (e : Datum) where
    -- an arrow, and those after it
    hop : (r : Result Value Fault) (w : Value) (ls : List Link) (next : Value → Result Value Fault)
        → ((v : Value) → r ≡ Ok v → run ls (put v e) ≡ onto (next v) (λ u. Passed (put u e)))
        → then_pass (leak_tested (onto r (λ v. Passed (set_var (put w e) t v)))) (λ g. run ls g)
        ≡ onto (onward r next) (λ u. Passed (put u e))
    hop (Err k) w ls next rest = refl
    hop (Ok v) w ls next rest = rw (slot.sets w v e, slot.clear v e) (rest v refl)

    -- the arrows after the first, from the temporary
    arrows_on : (fs : List ℕ) (w : Value) (k u : ℕ) → PointsTo s.cells k w → Leads p.shapes.structs k fs u
        → run (loads t t fs) (put w e) ≡ onto (walk s w fs) (λ v. Passed (put v e))
    arrows_on [] w k u points on = refl
    arrows_on (f ∷ fs) w k u points on =
        ap (λ z. then_pass (leak_tested z) (λ g. run (loads t t fs) g))
        (load_raw p s sound (put w e) (slot.cells w e) t t f k on.0 w (slot.holds w e) points on.1)
        ∙ hop (load s w f) w (loads t t fs) (λ v. walk s v fs)
        (λ v got. arrows_on fs v on.0 u (load_points p s sound w v k f on.0 points on.1 got) on.2)

    module _ (z : Value) where
      arrows : (fs : List ℕ) (b : ℕ) (w : Value) (k u : ℕ) → var_of (put z e) b ≡ w → PointsTo s.cells k w
          → Leads p.shapes.structs k fs u → run (loads t b fs) (put z e)
          ≡ onto (walk s w fs) (λ v. Passed (put (held_or z fs v) e))
      arrows [] b w k u is points on = refl
      arrows (f ∷ fs) b w k u is points on =
          ap (λ r. then_pass (leak_tested r) (λ g. run (loads t t fs) g))
          (load_raw p s sound (put z e) (slot.cells z e) t b f k on.0 w is points on.1)
          ∙ hop (load s w f) z (loads t t fs) (λ v. walk s v fs)
          (λ v got. arrows_on fs v on.0 u (load_points p s sound w v k f on.0 points on.1 got) on.2)

      -- the variable that then holds what was read
      holder_holds : (fs : List ℕ) (b : ℕ) (w v : Value) (k : Datum) → b < length p.vars → var_of s b ≡ w
          → walk s w fs ≡ Ok v → var_of (put (held_or z fs v) k) (holder t b fs) ≡ v
      holder_holds [] b w v k less is got = let same : w ≡ v = cc in slot.var z k b less ∙ is ∙ same
      holder_holds (f ∷ fs) b w v k less is got = slot.holds v k

      all_read : (q : Path) (u : ℕ) → PathLeads p q u → run (loads t q.var q.fields) (put z e)
          ≡ onto (read s q) (λ v. Passed (put (held_or z q.fields v) e))
      all_read q u path = arrows q.fields q.var (var_of s q.var) path.first u
          (slot.var z e q.var (path_less p q u path)) (var_points q u path) path.leads_on

      -- the same before other links
      pub path_from : (q : Path) (u : ℕ) → PathLeads p q u → (ls : List Link)
          → run (loads t q.var q.fields ++ ls) (put z e)
          ≡ onto (read s q) (λ v. run ls (put (held_or z q.fields v) e))
      path_from q u path ls =
          links_append p.shapes.structs choice (loads t q.var q.fields) ls (put z e)
          ∙ ap (λ r. then_pass r (λ g. run ls g)) (all_read q u path)
          ∙ then_onto (read s q) (λ v. put (held_or z q.fields v) e) (λ g. run ls g)

      pub held_from : (q : Path) (u : ℕ) (v : Value) (k : Datum) → PathLeads p q u → read s q ≡ Ok v
          → var_of (put (held_or z q.fields v) k) (holder t q.var q.fields) ≡ v
      held_from q u v k path got = holder_holds q.fields q.var (var_of s q.var) v k (path_less p q u path) refl got

    -- the same where it held nothing

    pub path_read : (q : Path) (u : ℕ) → PathLeads p q u → run (loads t q.var q.fields) (put Uninit e)
        ≡ onto (read s q) (λ v. Passed (put (held q.fields v) e))
    path_read q u path = all_read Uninit q u path

    pub path_then : (q : Path) (u : ℕ) → PathLeads p q u → (ls : List Link)
        → run (loads t q.var q.fields ++ ls) (put Uninit e) ≡ onto (read s q) (λ v. run ls (put (held q.fields v) e))
    path_then q u path ls = path_from Uninit q u path ls

    pub path_held : (q : Path) (u : ℕ) (v : Value) (k : Datum) → PathLeads p q u → read s q ≡ Ok v
        → var_of (put (held q.fields v) k) (holder t q.var q.fields) ≡ v
    path_held q u v k path got = held_from Uninit q u v k path got

  -- A datum

  module _ (t d : ℕ) (put : Value → Datum → Store) (slot : Slot (length p.vars) (length p.data_vars) s t d put) where
    field_hop : (r : Result Datum Fault) (x : Value)
        → then_pass (leak_tested (onto r (λ k. Passed (set_datum (put x Undefined) d k)))) (λ g. Passed g)
        ≡ onto r (λ k. Passed (put x k))
    field_hop (Err k) x = refl
    field_hop (Ok k) x = rw (slot.sets_datum x Undefined k, slot.clear x k) refl

    pub datum_read : (q : DataPath) → data_typed p.shapes.structs p.vars (length p.data_vars) q ≡ true
        → run (data_loads t d q) (put Uninit Undefined)
        ≡ onto (read_data s q) (λ k. Passed (put (base_held s q) (data_held q k)))
    datum_read (DataVar x) typed = refl
    datum_read (DataField base f) typed =
        let this : FieldTyped p base f = field_typed p base f typed in
        path_then t d put slot Undefined base this.struct this.leads
        (One (LoadData d (holder t base.var base.fields) f) ∷ [])
        ∙ onto_same (read s base)
        (λ v. run (One (LoadData d (holder t base.var base.fields) f) ∷ []) (put (held base.fields v) Undefined))
        (λ v. onto (load_datum s v f) (λ k. Passed (put (held base.fields (value_of (read s base))) k)))
        (λ v got.
        ap (λ z. then_pass (leak_tested z) (λ g. Passed g))
        (load_datum_raw p s sound (put (held base.fields v) Undefined) (slot.cells (held base.fields v) Undefined) d
        (holder t base.var base.fields) f this.struct v
        (path_held t d put slot Undefined base this.struct v Undefined this.leads got)
        (read_points base this.struct v this.leads got) this.less)
        ∙ field_hop (load_datum s v f) (held base.fields v)
        ∙ ap (λ z. onto (load_datum s v f) (λ k. Passed (put (held base.fields (value_of z)) k))) (sym got))
        ∙ sym
        (onto_onward (read s base) (λ v. load_datum s v f)
        (λ k. Passed (put (held base.fields (value_of (read s base))) k)))

    pub datum_then : (q : DataPath) → data_typed p.shapes.structs p.vars (length p.data_vars) q ≡ true
        → (ls : List Link) → run (data_loads t d q ++ ls) (put Uninit Undefined)
        ≡ onto (read_data s q) (λ k. run ls (put (base_held s q) (data_held q k)))
    datum_then q typed ls =
        links_append p.shapes.structs choice (data_loads t d q) ls (put Uninit Undefined)
        ∙ ap (λ z. then_pass z (λ g. run ls g)) (datum_read q typed)
        ∙ then_onto (read_data s q) (λ k. put (base_held s q) (data_held q k)) (λ g. run ls g)

    pub datum_held : (q : DataPath) (k : Datum) → data_typed p.shapes.structs p.vars (length p.data_vars) q ≡ true
        → read_data s q ≡ Ok k → datum_of (put (base_held s q) (data_held q k)) (data_holder d q) ≡ k
    datum_held (DataVar x) k typed got = let same : datum_of s x ≡ k = cc in
        slot.datum Uninit Undefined x (data_var_less p x typed) ∙ same
    datum_held (DataField base f) k typed got = slot.holds_datum (base_held s (DataField base f)) k
