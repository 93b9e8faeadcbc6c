-- Reading, writing, new cells and freeing keep a store proper and fitting.
use Rattle.std.proofs.Common.{◌≡◌, ◌<◌, ℕ, zero, suc, true, nat_lt, Option, Some, None, Result, Ok, Err, List, [], ◌∷◌}
use Rattle.std.proofs.Common.{◌++◌, length, length-set, replicate, slice_get, refl, sym, ap, ◌∙◌, subst, arith}
use Rattle.std.proofs.lemmas.Bool.{and_parts}
use Rattle.std.proofs.lemmas.List.{length-replicate}
use Rattle.std.proofs.lemmas.Bool.Decides.{nat_tests}
use Rattle.fore_base.specs.declared.fault.Fault.{Fault}
use Rattle.fore_base.specs.declared.shape.Shape.{Shape}
use Rattle.fore_base.specs.declared.store.Value.{Value}
use Rattle.fore_base.specs.declared.store.Value.TheVariants.{Null, Uninit, Dangling, Cell}
use Rattle.fore_base.specs.declared.store.Datum.{Datum}
use Rattle.fore_base.specs.declared.store.Datum.TheVariants.{Undefined}
use Rattle.fore_base.specs.declared.store.CellRec.{CellRec}
use Rattle.fore_base.specs.declared.store.Store.{Store}
use Rattle.fore_base.specs.Lists.{Every}
use Rattle.fore_base.specs.Stores.{onward, var_of, set_var, set_datum, kill, followed, load, store_at, store_datum}
use Rattle.fore_base.specs.Stores.{walk, write_from, field_in, with_field, with_datum, grown, freed}
use Rattle.fore_base.specs.Heap.{NamesCell, AllDiffer, IsProper}
use Rattle.c_types.specs.declared.program.Path.{Path}
use Rattle.c_types.specs.declared.program.VarDef.{VarDef}
use Rattle.fore_base.specs.Shapes.{targets_in, targets_of, datums_of}
use Rattle.c_types.specs.Program.{Program, all_below, shapes_typed, vars_typed, var_target, target_after, path_target}
use Rattle.c_types.specs.Steps.{read, write_path, blank}
use Rattle.c_types.specs.Runs.{empty_store}
use Rattle.c_types.specs.Fits.{HasCellOf, PointsTo, PointsToEach, var_targets, CellFits, FitsProgram}
use Rattle.c_types.proofs.CellsKept.{IsBelow, heads_with, heads_with_datum, heads_cell_of, heads_differ, heads_below}
use Rattle.c_types.proofs.CellsKept.{without_differ, without_below, append_cell_of, last_cell_of, append_differ}
use Rattle.c_types.proofs.CellsKept.{append_below}
use Rattle.c_types.proofs.CellsFit.{IsAt, is_at, at_same, length_set_each, names_each, get_points, set_points}
use Rattle.c_types.proofs.CellsFit.{dead_points, unset_points, dangle_points_each, each_moved, cells_moved}
use Rattle.c_types.proofs.CellsFit.{field_points, with_fits, with_datum_fits, without_fits, append_fits}

-- what is got, where no fault is met, meets P
abbrev pub Gives : {A : Type 0} → (A → Type 0) → Result A Fault → Type 0
Gives P (Ok a) = P a
Gives P (Err k) = Unit {0}

pub always : {A : Type 0} (r : Result A Fault) → Gives (λ a. Unit {0}) r
always (Ok a) = tt
always (Err k) = tt

pub onward_gives : {A B : Type 0} (P : A → Type 0) (Q : B → Type 0) (r : Result A Fault) (next : A → Result B Fault)
    → Gives P r → ((a : A) → P a → Gives Q (next a)) → Gives Q (onward r next)
onward_gives P Q (Ok a) next this further = further a this
onward_gives P Q (Err k) next this further = tt

-- Structs along a path

-- the arrows fs lead from the struct t to the struct u
abbrev pub Leads : List Shape → ℕ → List ℕ → ℕ → Type 0
Leads shapes t [] u = t ≡ u
Leads shapes t (f ∷ fs) u = (k : ℕ) × IsAt (targets_of shapes t) f k × Leads shapes k fs u

leads_nowhere : (shapes : List Shape) (fs : List ℕ) (u : ℕ) → target_after shapes None fs ≡ Some u → ⊥
leads_nowhere shapes [] u e = cc
leads_nowhere shapes (f ∷ fs) u e = cc

leads : (shapes : List Shape) (t : ℕ) (fs : List ℕ) (u : ℕ) → target_after shapes (Some t) fs ≡ Some u
    → Leads shapes t fs u
leads shapes t [] u e = cc
leads shapes t (f ∷ fs) u e = here (slice_get (targets_of shapes t) f) refl (λ k. leads shapes k fs u)
  where
    here : (o : Option ℕ) → slice_get (targets_of shapes t) f ≡ o
        → ((k : ℕ) → target_after shapes (Some k) fs ≡ Some u → Leads shapes k fs u) → (k : ℕ)
        × IsAt (targets_of shapes t) f k × Leads shapes k fs u
    here None is rest = absurd (leads_nowhere shapes fs u (ap (λ o. target_after shapes o fs) (sym is) ∙ e))
    here (Some k) is rest =
        (k, is_at (targets_of shapes t) f k is, rest k (ap (λ o. target_after shapes o fs) (sym is) ∙ e))

-- the struct of a variable, from which the arrows of a path lead to the struct u
pub record PathLeads (p : Program) (q : Path) (u : ℕ) : Type 0 where
  pub first : ℕ
  pub is_var : IsAt (var_targets p.vars) q.var first
  pub leads_on : Leads p.shapes.structs first q.fields u

var_at : (vars : List VarDef) (x t : ℕ) → var_target vars x ≡ Some t → IsAt (var_targets vars) x t
var_at [] x t e = cc
var_at (v ∷ vars) zero t e = cc
var_at (v ∷ vars) (suc x) t e = var_at vars x t e

pub path_leads : (p : Program) (q : Path) (u : ℕ) → path_target p.shapes.structs p.vars (length p.data_vars) q ≡ Some u
    → PathLeads p q u
path_leads p q u e = here (var_target p.vars q.var) refl
  where
    here : (o : Option ℕ) → var_target p.vars q.var ≡ o → PathLeads p q u
    here None is =
        absurd
        (leads_nowhere p.shapes.structs q.fields u (ap (λ o. target_after p.shapes.structs o q.fields) (sym is) ∙ e))
    here (Some t) is = record {
      first = t;
      is_var = var_at p.vars q.var t is;
      leads_on = leads p.shapes.structs t q.fields u (ap (λ o. target_after p.shapes.structs o q.fields) (sym is) ∙ e);
    }

-- The structs of a well typed program's fields and variables are there.

at_below : (n : ℕ) (ts : List ℕ) (i t : ℕ) → all_below n ts ≡ true → IsAt ts i t → t < n
at_below n [] i t e at = absurd at
at_below n (u ∷ ts) zero t e at = let first : nat_lt u n ≡ true = (and_parts (nat_lt u n) (all_below n ts) e).0 in
    grind (arith, nat_tests)
at_below n (u ∷ ts) (suc i) t e at = at_below n ts i t (and_parts (nat_lt u n) (all_below n ts) e).1 at

targets_below : (n : ℕ) (shapes : List Shape) (t : ℕ) → shapes_typed n shapes ≡ true → all_below n (targets_of shapes t)
    ≡ true
targets_below n [] t e = refl
targets_below n (s ∷ shapes) zero e = (and_parts (all_below n (targets_in s.fields)) (shapes_typed n shapes) e).0
targets_below n (s ∷ shapes) (suc t) e =
    targets_below n shapes t (and_parts (all_below n (targets_in s.fields)) (shapes_typed n shapes) e).1

vars_below : (n : ℕ) (vars : List VarDef) → vars_typed n vars ≡ true → all_below n (var_targets vars) ≡ true
vars_below n [] e = refl
vars_below n (v ∷ vars) e =
    rw (and_parts (nat_lt v.shape n) (vars_typed n vars) e).0
    (vars_below n vars (and_parts (nat_lt v.shape n) (vars_typed n vars) e).1)

leads_below : (n : ℕ) (shapes : List Shape) (t : ℕ) (fs : List ℕ) (u : ℕ) → shapes_typed n shapes ≡ true → t < n
    → Leads shapes t fs u → u < n
leads_below n shapes t [] u typed less on = subst (λ k. k < n) on less
leads_below n shapes t (f ∷ fs) u typed less on =
    leads_below n shapes on.0 fs u typed (at_below n (targets_of shapes t) f on.0 (targets_below n shapes t typed) on.1)
    on.2

module _ (p : Program) where
  pub path_below : (q : Path) (u : ℕ) → shapes_typed (length p.shapes.structs) p.shapes.structs ≡ true
      → vars_typed (length p.shapes.structs) p.vars ≡ true → PathLeads p q u → u < length p.shapes.structs
  path_below q u shapes vars path =
      leads_below (length p.shapes.structs) p.shapes.structs path.first q.fields u shapes
      (at_below (length p.shapes.structs) (var_targets p.vars) q.var path.first
      (vars_below (length p.shapes.structs) p.vars vars) path.is_var)
      path.leads_on

  -- a store that is proper and fits the program, without what follows from the rest
  pub record Sound (s : Store) : Type 0 where
    pub differ : AllDiffer s.cells
    pub below : Every (IsBelow s.next) s.cells
    pub vars : PointsToEach s.cells (var_targets p.vars) s.vars
    pub data_vars : length s.data_vars ≡ length p.data_vars
    pub cells : Every (CellFits p.shapes.structs s.cells) s.cells

  pub is_sound : (s : Store) → IsProper s → FitsProgram p s → Sound s
  is_sound s proper fits =
      record {
        differ = proper.differ;
        below = proper.below;
        vars = fits.vars;
        data_vars = fits.data_vars;
        cells = fits.cells;
      }

  pub sound_fits : (s : Store) → Sound s → FitsProgram p s
  sound_fits s sound = record { vars = sound.vars; data_vars = sound.data_vars; cells = sound.cells }

  fields_named : (cs es : List CellRec) → Every (CellFits p.shapes.structs cs) es
      → Every (λ c. Every (NamesCell cs) c.fields) es
  fields_named cs [] fit = tt
  fields_named cs (e ∷ es) fit =
      (names_each cs (targets_of p.shapes.structs e.shape) e.fields fit.0.fields, fields_named cs es fit.1)

  pub sound_proper : (s : Store) → Sound s → IsProper s
  sound_proper s sound = record {
    differ = sound.differ;
    below = sound.below;
    vars = names_each s.cells (var_targets p.vars) s.vars sound.vars;
    fields = fields_named s.cells s.cells sound.cells;
  }

  -- Reading

  followed_gives : (cs : List CellRec) (t : ℕ) (v : Value) → PointsTo cs t v
      → Gives (λ n. HasCellOf cs n t) (followed v)
  followed_gives cs t (Cell n) points = points
  followed_gives cs t _ points = tt

  load_gives : (s : Store) (t : ℕ) (v : Value) (f k : ℕ) → Sound s → PointsTo s.cells t v
      → IsAt (targets_of p.shapes.structs t) f k → Gives (PointsTo s.cells k) (load s v f)
  load_gives s t v f k sound points at =
      onward_gives (λ n. HasCellOf s.cells n t) (PointsTo s.cells k) (followed v) (λ n. Ok (field_in s.cells n f))
      (followed_gives s.cells t v points)
      (λ n has. field_points p.shapes.structs s.cells s.cells n t f k sound.differ sound.cells has at)

  walk_gives : (s : Store) (t : ℕ) (v : Value) (fs : List ℕ) (u : ℕ) → Sound s → PointsTo s.cells t v
      → Leads p.shapes.structs t fs u → Gives (PointsTo s.cells u) (walk s v fs)
  walk_gives s t v [] u sound points on = subst (λ k. PointsTo s.cells k v) on points
  walk_gives s t v (f ∷ fs) u sound points on =
      onward_gives (PointsTo s.cells on.0) (PointsTo s.cells u) (load s v f) (λ w. walk s w fs)
      (load_gives s t v f on.0 sound points on.1)
      (λ w next. walk_gives s on.0 w fs u sound next on.2)

  pub read_gives : (s : Store) (q : Path) (u : ℕ) → Sound s → PathLeads p q u → Gives (PointsTo s.cells u) (read s q)
  read_gives s q u sound path =
      walk_gives s path.first (var_of s q.var) q.fields u sound
      (get_points s.cells (var_targets p.vars) s.vars q.var path.first sound.vars path.is_var) path.leads_on

  -- Writing

  set_sound : (s : Store) (x t : ℕ) (v : Value) → Sound s → IsAt (var_targets p.vars) x t → PointsTo s.cells t v
      → Sound (set_var s x v)
  set_sound s x t v sound at points = record {
    differ = sound.differ;
    below = sound.below;
    vars = set_points s.cells (var_targets p.vars) s.vars x v
        (λ u other. subst (λ k. PointsTo s.cells k v) (at_same (var_targets p.vars) x t u at other) points) sound.vars;
    data_vars = sound.data_vars;
    cells = sound.cells;
  }

  field_sound : (s : Store) (n t f u : ℕ) (w : Value) → Sound s → HasCellOf s.cells n t
      → IsAt (targets_of p.shapes.structs t) f u → PointsTo s.cells u w
      → Sound (record s { cells = with_field s.cells n f w })
  field_sound s n t f u w sound has at points =
      let shapes : List Shape = p.shapes.structs in
      let new : List CellRec = with_field s.cells n f w in
      let kept : (m k : ℕ) → HasCellOf s.cells m k → HasCellOf new m k =
      heads_cell_of s.cells new (heads_with n f w s.cells) in
      let fit : Every (CellFits shapes s.cells) new =
      with_fits shapes s.cells s.cells n t f w
      (λ k other. subst (λ j. PointsTo s.cells j w) (at_same (targets_of shapes t) f u k at other) points)
      sound.differ has sound.cells in
      record {
        differ = heads_differ s.cells new (heads_with n f w s.cells) sound.differ;
        below = heads_below s.next s.cells new (heads_with n f w s.cells) sound.below;
        vars = each_moved s.cells new kept (var_targets p.vars) s.vars sound.vars;
        data_vars = sound.data_vars;
        cells = cells_moved s.cells new kept shapes new fit;
      }

  store_sound : (s : Store) (t : ℕ) (v : Value) (f u : ℕ) (w : Value) → Sound s → PointsTo s.cells t v
      → IsAt (targets_of p.shapes.structs t) f u → PointsTo s.cells u w → Gives Sound (store_at s v f w)
  store_sound s t v f u w sound base at points =
      onward_gives (λ n. HasCellOf s.cells n t) Sound (followed v)
      (λ n. Ok (record s { cells = with_field s.cells n f w })) (followed_gives s.cells t v base)
      (λ n has. field_sound s n t f u w sound has at points)

  from_sound : (s : Store) (t : ℕ) (v : Value) (f : ℕ) (fs : List ℕ) (u : ℕ) (w : Value) → Sound s
      → PointsTo s.cells t v → Leads p.shapes.structs t (f ∷ fs) u → PointsTo s.cells u w
      → Gives Sound (write_from s v f fs w)
  from_sound s t v f [] u w sound base on points =
      store_sound s t v f u w sound base (subst (λ k. IsAt (targets_of p.shapes.structs t) f k) on.2 on.1) points
  from_sound s t v f (g ∷ gs) u w sound base on points =
      onward_gives (PointsTo s.cells on.0) Sound (load s v f) (λ x. write_from s x g gs w)
      (load_gives s t v f on.0 sound base on.1)
      (λ x next. from_sound s on.0 x g gs u w sound next on.2 points)

  write_sound : (s : Store) (x t : ℕ) (fs : List ℕ) (u : ℕ) (w : Value) → Sound s → IsAt (var_targets p.vars) x t
      → Leads p.shapes.structs t fs u → PointsTo s.cells u w → Gives Sound (write_path s x fs w)
  write_sound s x t [] u w sound at on points =
      set_sound s x t w sound at (subst (λ k. PointsTo s.cells k w) (sym on) points)
  write_sound s x t (f ∷ fs) u w sound at on points =
      from_sound s t (var_of s x) f fs u w sound (get_points s.cells (var_targets p.vars) s.vars x t sound.vars at) on
      points

  pub path_sound : (s : Store) (q : Path) (u : ℕ) (w : Value) → Sound s → PathLeads p q u → PointsTo s.cells u w
      → Gives Sound (write_path s q.var q.fields w)
  path_sound s q u w sound path points =
      write_sound s q.var path.first q.fields u w sound path.is_var path.leads_on points

  pub set_datum_sound : (s : Store) (x : ℕ) (d : Datum) → Sound s → Sound (set_datum s x d)
  set_datum_sound s x d sound =
      record {
        differ = sound.differ;
        below = sound.below;
        vars = sound.vars;
        data_vars = length-set s.data_vars x d
            ∙ sound.data_vars;
        cells = sound.cells;
      }

  datum_sound : (s : Store) (n f : ℕ) (d : Datum) → Sound s → Sound (record s { cells = with_datum s.cells n f d })
  datum_sound s n f d sound =
      let new : List CellRec = with_datum s.cells n f d in
      let kept : (m k : ℕ) → HasCellOf s.cells m k → HasCellOf new m k =
      heads_cell_of s.cells new (heads_with_datum n f d s.cells) in
      record {
        differ = heads_differ s.cells new (heads_with_datum n f d s.cells) sound.differ;
        below = heads_below s.next s.cells new (heads_with_datum n f d s.cells) sound.below;
        vars = each_moved s.cells new kept (var_targets p.vars) s.vars sound.vars;
        data_vars = sound.data_vars;
        cells = cells_moved s.cells new kept p.shapes.structs new
            (with_datum_fits p.shapes.structs s.cells n f d s.cells sound.cells);
      }

  pub store_datum_sound : (s : Store) (v : Value) (f : ℕ) (d : Datum) → Sound s → Gives Sound (store_datum s v f d)
  store_datum_sound s (Cell n) f d sound = datum_sound s n f d sound
  store_datum_sound s _ f d sound = tt

  -- Variables die

  pub kill_sound : (ps ds : List ℕ) (s : Store) → Sound s → Sound (kill ps ds s)
  kill_sound ps ds s sound = record {
    differ = sound.differ;
    below = sound.below;
    vars = dead_points s.cells (var_targets p.vars) s.vars ps sound.vars;
    data_vars = length_set_each s.data_vars ds Undefined ∙ sound.data_vars;
    cells = sound.cells;
  }

  -- Cells come and go

  blank_fits : (cs : List CellRec) (number t : ℕ) → t < length p.shapes.structs
      → CellFits p.shapes.structs cs (blank p.shapes.structs number t)
  blank_fits cs number t less =
      record {
        shape = less;
        fields = unset_points cs (targets_of p.shapes.structs t);
        datums = length-replicate (datums_of p.shapes.structs t) Undefined;
      }

  pub grown_sound : (s : Store) (t : ℕ) → t < length p.shapes.structs → Sound s
      → Sound (grown s (blank p.shapes.structs s.next t))
  grown_sound s t less sound =
      let shapes : List Shape = p.shapes.structs in
      let c : CellRec = blank shapes s.next t in
      let new : List CellRec = s.cells ++ c ∷ [] in
      let kept : (m k : ℕ) → HasCellOf s.cells m k → HasCellOf new m k = append_cell_of s.cells c in
      record {
        differ = append_differ s.next s.cells c refl sound.below sound.differ;
        below = append_below s.next s.cells c refl sound.below;
        vars = each_moved s.cells new kept (var_targets p.vars) s.vars sound.vars;
        data_vars = sound.data_vars;
        cells = cells_moved s.cells new kept shapes new
            (append_fits shapes s.cells s.cells c (blank_fits s.cells s.next t less) sound.cells);
      }

  pub grown_points : (s : Store) (t : ℕ) → PointsTo (grown s (blank p.shapes.structs s.next t)).cells t (Cell s.next)
  grown_points s t = last_cell_of s.cells (blank p.shapes.structs s.next t)

  end_sound : (s : Store) (n : ℕ) → Sound s → Gives Sound (freed s (Cell n))
  end_sound s n sound = record {
    differ = without_differ n s.cells sound.differ;
    below = without_below n s.next s.cells sound.below;
    vars = dangle_points_each n s.cells (var_targets p.vars) s.vars sound.vars;
    data_vars = sound.data_vars;
    cells = without_fits p.shapes.structs s.cells n s.cells sound.cells;
  }

  pub freed_sound : (s : Store) (v : Value) → Sound s → Gives Sound (freed s v)
  freed_sound s Null sound = sound
  freed_sound s Uninit sound = tt
  freed_sound s Dangling sound = tt
  freed_sound s (Cell n) sound = end_sound s n sound

  -- The empty store

  unset_vars : (vars : List VarDef) → PointsToEach [] (var_targets vars) (replicate (length vars) Uninit)
  unset_vars [] = tt
  unset_vars (v ∷ vars) = (tt, unset_vars vars)

  pub empty_sound : Sound (empty_store (length p.vars) (length p.data_vars))
  empty_sound =
      record {
        differ = tt;
        below = tt;
        vars = unset_vars p.vars;
        data_vars = length-replicate (length p.data_vars) Undefined;
        cells = tt;
      }
