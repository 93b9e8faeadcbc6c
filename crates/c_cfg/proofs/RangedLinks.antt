-- Each number of the edges of an act is in range.
use Rattle.std.proofs.Common.{◌≡◌, ◌<◌, ◌≤◌, ◌+◌, ℕ, zero, suc, true, true≢false, List, [], ◌∷◌, ◌++◌, length, refl}
use Rattle.std.proofs.Common.{sym, ap, arith, Option, Some, None, is_some}
use Rattle.std.proofs.lemmas.Bool.{and_parts, ltb-true, leb-true}
use Rattle.fore_base.specs.declared.limits.TheConstants.{DATUM}
use Rattle.fore_base.specs.declared.shape.Shape.{Shape}
use Rattle.fore_base.specs.Lists.{Every}
use Rattle.fore_base.specs.Shapes.{targets_of, datums_of}
use Rattle.fore_base.proofs.ListLemmas.{in_every, every_append, every_weaker}
use Rattle.c_types.specs.declared.program.Path.{Path}
use Rattle.c_types.specs.declared.program.DataPath.{DataPath}
use Rattle.c_types.specs.declared.program.DataPath.TheVariants.{Var as DataVar, Field as DataField}
use Rattle.c_types.specs.declared.program.PtrRhs.{PtrRhs}
use Rattle.c_types.specs.declared.program.PtrRhs.TheVariants.{Path as RhsPath, Null as RhsNull, New as RhsNew}
use Rattle.c_types.specs.declared.program.DataRhs.{DataRhs}
use Rattle.c_types.specs.declared.program.DataRhs.TheVariants.{Path as DataRhsPath, Known as DataRhsKnown}
use Rattle.c_types.specs.declared.program.DataRhs.TheVariants.{Choice as DataRhsChoice}
use Rattle.c_types.specs.declared.program.Act.{Act}
use Rattle.c_types.specs.declared.program.Act.TheVariants.{SetPtr, SetData, Free as FreeAct, Return, Break}
use Rattle.c_types.specs.declared.program.Act.TheVariants.{Continue}
use Rattle.c_types.specs.declared.program.VarDef.{VarDef}
use Rattle.c_types.specs.Program.{Program, path_target, data_typed, data_rhs_typed, returned_typed, has_datum}
use Rattle.c_types.specs.Program.{is_typed}
use Rattle.c_types.specs.Control.{Items, closed_ptrs, closed_datums}
use Rattle.c_types.specs.Steps.{below}
use Rattle.c_types.specs.Fits.{var_targets, ActFits}
use Rattle.c_types.proofs.CellsFit.{IsAt}
use Rattle.c_types.proofs.Fitting.{Leads, PathLeads, path_leads, path_below}
use Rattle.c_types.proofs.StepLaws.{target_is, some_target, agreed}
use Rattle.c_types.proofs.WellTyped.{has_shapes_typed, has_vars_typed}
use Rattle.c_cfg.specs.declared.graph.Instr.{Instr}
use Rattle.c_cfg.specs.declared.graph.Instr.TheVariants.{Kill}
use Rattle.c_cfg.specs.Graphs.{may_have}
use Rattle.c_cfg.specs.Links.{Link, One, Two, loads, holder, used, loads_but_last, ends, data_loads, data_holder}
use Rattle.c_cfg.specs.Links.{base_used, data_used, var_row, path_row, ptr_row, data_var_row, data_field_row, data_row}
use Rattle.c_cfg.specs.Links.{return_row, act_row}
use Rattle.c_cfg.specs.Ranges.{IsPtrField, IsDataField, InstrFits}
use Rattle.c_cfg.proofs.Leaving.{below_in}
use Rattle.c_cfg.proofs.Ranged.{Ranged, closed_below}

-- Paths

at_within : (ts : List ℕ) (i t : ℕ) → IsAt ts i t → i < length ts
at_within [] i t h = absurd h
at_within (u ∷ us) zero t h = omega arith
at_within (u ∷ us) (suc i) t h = let l = at_within us i t h in omega (arith, l)

targets_long : (vars : List VarDef) → length (var_targets vars) ≡ length vars
targets_long [] = refl
targets_long (v ∷ vs) = ap suc (targets_long vs)

fields_are : (shapes : List Shape) (t : ℕ) (fs : List ℕ) (u : ℕ) → Leads shapes t fs u → Every (IsPtrField shapes) fs
fields_are shapes t [] u h = tt
fields_are shapes t (f ∷ fs) u h =
    (record { shape = t; is_there = at_within (targets_of shapes t) f h.0 h.1 }, fields_are shapes h.0 fs u h.2)

module _ (p : Program) where
  abbrev shapes : List Shape
  shapes = p.shapes.structs

  abbrev nv : ℕ
  nv = length p.vars

  abbrev nd : ℕ
  nd = length p.data_vars

  abbrev target : Path → Option ℕ
  target q = path_target p.shapes.structs p.vars (length p.data_vars) q

  -- a path of the program
  pub record PathFits (q : Path) : Type 0 where
    pub var : q.var < length p.vars
    pub fields : Every (IsPtrField p.shapes.structs) q.fields

  pub path_fits : (q : Path) (t : ℕ) → target q ≡ Some t → PathFits q
  path_fits q t e =
      let lead : PathLeads p q t = path_leads p q t e in
      record {
        var = let l = at_within (var_targets p.vars) q.var lead.first lead.is_var in
            omega (arith, l, targets_long p.vars);
        fields = fields_are shapes lead.first q.fields t lead.leads_on;
      }

  pub some_fits : (q : Path) → is_some (target q) ≡ true → PathFits q
  some_fits q e = let some = some_target (target q) e in path_fits q some.0 some.1

  -- a data path of the program
  abbrev pub DataFits : DataPath → Type 0
  DataFits (DataVar x) = x < length p.data_vars
  DataFits (DataField base f) = PathFits base × IsDataField p.shapes.structs f

  pub data_fits : (q : DataPath) → data_typed p.shapes.structs p.vars (length p.data_vars) q ≡ true → DataFits q
  data_fits (DataVar x) e = ltb-true x nd e
  data_fits (DataField base f) e = here (target base) refl e
    where
      here : (o : Option ℕ) → target base ≡ o → has_datum p.shapes.structs o f ≡ true → PathFits base
          × IsDataField p.shapes.structs f
      here None is h = absurd (true≢false (sym h))
      here (Some t) is h = (path_fits base t is, record { shape = t; is_there = ltb-true f (datums_of shapes t) h })

  -- Links

  abbrev pub Fits : Instr → Type 0
  Fits i = InstrFits (length p.vars + 2) (length p.data_vars + 2) p.shapes.structs i

  abbrev pub LinkFits : Link → Type 0
  LinkFits (One i) = Fits i × (may_have i None ≡ true)
  LinkFits (Two i j) = Fits i × Fits j × (may_have i (Some 0) ≡ true) × (may_have j (Some 1) ≡ true)

  abbrev pub All : List Link → Type 0
  All ls = Every LinkFits ls

  pub more : (xs ys : List Link) → All xs → All ys → All (xs ++ ys)
  more = every_append LinkFits

  abbrev pub Ptr : ℕ → Type 0
  Ptr x = x < length p.vars + 2

  abbrev pub Datum : ℕ → Type 0
  Datum x = x < length p.data_vars + 2

  pub own : (x : ℕ) → x < nv → Ptr x
  own x h = omega (arith, h)

  pub own_datum : (x : ℕ) → x < nd → Datum x
  own_datum x h = omega (arith, h)

  pub p0_in : Ptr nv
  p0_in = omega arith

  pub p1_in : Ptr (nv + 1)
  p1_in = omega arith

  pub d0_in : Datum nd
  d0_in = omega arith

  pub d1_in : Datum (nd + 1)
  d1_in = omega arith

  pub loads_fit : (t b : ℕ) (fs : List ℕ) → Ptr t → Ptr b → Every (IsPtrField shapes) fs → All (loads t b fs)
  loads_fit t b [] ht hb h = tt
  loads_fit t b (f ∷ fs) ht hb h = (((ht, hb, h.0), refl), loads_fit t t fs ht ht h.1)

  pub holder_fits : (t b : ℕ) (fs : List ℕ) → Ptr t → Ptr b → Ptr (holder t b fs)
  holder_fits t b [] ht hb = hb
  holder_fits t b (f ∷ fs) ht hb = ht

  pub used_fits : (t : ℕ) (fs : List ℕ) → Ptr t → Every Ptr (used t fs)
  used_fits t [] ht = tt
  used_fits t (f ∷ fs) ht = (ht, tt)

  pub ends_fit : (ps ds : List ℕ) → Every Ptr ps → Every Datum ds → All (ends ps ds)
  ends_fit [] [] hp hd = tt
  ends_fit [] (d ∷ ds) hp hd = (((hp, hd), refl), tt)
  ends_fit (q ∷ ps) ds hp hd = (((hp, hd), refl), tt)

  pub last_fits : (t b f : ℕ) (fs : List ℕ) (last : ℕ → ℕ → Instr) → Ptr t → Ptr b → Every (IsPtrField shapes) (f ∷ fs)
      → ((c g : ℕ) → Ptr c → IsPtrField shapes g → LinkFits (One (last c g))) → All (loads_but_last t b f fs last)
  last_fits t b f [] last ht hb h l = (l b f hb h.0, tt)
  last_fits t b f (g ∷ gs) last ht hb h l = (((ht, hb, h.0), refl), last_fits t t g gs last ht ht h.1 l)

  pub data_loads_fit : (t d : ℕ) (q : DataPath) → Ptr t → Datum d → DataFits q → All (data_loads t d q)
  data_loads_fit t d (DataVar x) ht hd h = tt
  data_loads_fit t d (DataField base f) ht hd h =
      more (loads t base.var base.fields) _ (loads_fit t base.var base.fields ht (own base.var h.0.var) h.0.fields)
      (((hd, holder_fits t base.var base.fields ht (own base.var h.0.var), h.1), refl), tt)

  pub data_holder_fits : (d : ℕ) (q : DataPath) → Datum d → DataFits q → Datum (data_holder d q)
  data_holder_fits d (DataVar x) hd h = own_datum x h
  data_holder_fits d (DataField base f) hd h = hd

  pub base_used_fits : (t : ℕ) (q : DataPath) → Ptr t → Every Ptr (base_used t q)
  base_used_fits t (DataVar x) ht = tt
  base_used_fits t (DataField base f) ht = used_fits t base.fields ht

  pub data_used_fits : (d : ℕ) (q : DataPath) → Datum d → Every Datum (data_used d q)
  data_used_fits d (DataVar x) hd = tt
  data_used_fits d (DataField base f) hd = (hd, tt)

  -- Assignments

  -- a right side of the program
  abbrev RhsFits : PtrRhs → Type 0
  RhsFits (RhsPath q) = PathFits q
  RhsFits RhsNull = Unit {0}
  RhsFits (RhsNew shape) = shape < length p.shapes.structs

  var_row_fits : (x : ℕ) (from : PtrRhs) → Ptr x → RhsFits from → All (var_row nv nd x from)
  var_row_fits x (RhsPath q) hx h = by_fields q.fields h.fields
    where
      by_fields : (fs : List ℕ) → Every (IsPtrField shapes) fs
          → All (var_row nv nd x (RhsPath (record { var = q.var; fields = fs })))
      by_fields [] hf = (((hx, own q.var h.var), refl), tt)
      by_fields (f ∷ fs) hf = more (loads_but_last nv q.var f fs _) _
          (last_fits nv q.var f fs _ p0_in (own q.var h.var) hf (λ c g hc hg. ((hx, hc, hg), refl)))
          (ends_fit _ [] (used_fits nv fs p0_in) tt)
  var_row_fits x RhsNull hx h = (((hx, tt), refl), tt)
  var_row_fits x (RhsNew shape) hx h = (((hx, h), refl), tt)

  path_row_fits : (x f : ℕ) (fs : List ℕ) (from : PtrRhs) → Ptr x → Every (IsPtrField shapes) (f ∷ fs) → RhsFits from
      → All (path_row nv nd x f fs from)
  path_row_fits x f fs (RhsPath q) hx hf h =
      more (loads nv q.var q.fields) _ (loads_fit nv q.var q.fields p0_in (own q.var h.var) h.fields)
      (more (loads_but_last (nv + 1) x f fs _) _
      (last_fits (nv + 1) x f fs _ p1_in hx hf
      (λ c g hc hg. ((hc, hg, holder_fits nv q.var q.fields p0_in (own q.var h.var)), refl)))
      (ends_fit _ [] (every_append Ptr (used nv q.fields) _ (used_fits nv q.fields p0_in) (used_fits (nv + 1) fs p1_in))
      tt))
  path_row_fits x f fs RhsNull hx hf h =
      more (loads_but_last (nv + 1) x f fs _) _
      (last_fits (nv + 1) x f fs _ p1_in hx hf (λ c g hc hg. ((hc, hg), refl)))
      (ends_fit _ [] (used_fits (nv + 1) fs p1_in) tt)
  path_row_fits x f fs (RhsNew shape) hx hf h = (
    ((p0_in, h), refl),
    more (loads_but_last (nv + 1) x f fs _) _
        (last_fits (nv + 1) x f fs _ p1_in hx hf (λ c g hc hg. ((hc, hg, p0_in), refl)))
        (ends_fit (nv ∷ used (nv + 1) fs) [] (p0_in, used_fits (nv + 1) fs p1_in) tt),
  )

  ptr_row_fits : (to : Path) (from : PtrRhs) → PathFits to → RhsFits from → All (ptr_row nv nd to.var to.fields from)
  ptr_row_fits to from hto h = by_fields to.fields hto.fields
    where
      by_fields : (fs : List ℕ) → Every (IsPtrField shapes) fs → All (ptr_row nv nd to.var fs from)
      by_fields [] hf = var_row_fits to.var from (own to.var hto.var) h
      by_fields (f ∷ fs) hf = path_row_fits to.var f fs from (own to.var hto.var) hf h

  abbrev DataRhsFits : DataRhs → Type 0
  DataRhsFits (DataRhsPath q) = DataFits q
  DataRhsFits (DataRhsKnown k) = k ≤ DATUM
  DataRhsFits DataRhsChoice = Unit {0}

  data_var_fits : (x : ℕ) (from : DataRhs) → Datum x → DataRhsFits from → All (data_var_row nv nd x from)
  data_var_fits x (DataRhsPath (DataVar y)) hx h = (((hx, own_datum y h), refl), tt)
  data_var_fits x (DataRhsPath (DataField base f)) hx h =
      more (data_loads nv x (DataField base f)) _ (data_loads_fit nv x (DataField base f) p0_in hx h)
      (ends_fit _ [] (used_fits nv base.fields p0_in) tt)
  data_var_fits x (DataRhsKnown k) hx h = (((hx, h), refl), tt)
  data_var_fits x DataRhsChoice hx h = ((hx, hx, refl, refl), tt)

  data_field_fits : (base : Path) (f : ℕ) (from : DataRhs) → PathFits base → IsDataField shapes f → DataRhsFits from
      → All (data_field_row nv nd base f from)
  data_field_fits base f (DataRhsPath q) hb hf h =
      let to = holder_fits (nv + 1) base.var base.fields p1_in (own base.var hb.var) in
      more (data_loads nv nd q) _ (data_loads_fit nv nd q p0_in d0_in h)
      (more (loads (nv + 1) base.var base.fields) _
      (loads_fit (nv + 1) base.var base.fields p1_in (own base.var hb.var) hb.fields) (
        ((to, hf, data_holder_fits nd q d0_in h), refl),
        ends_fit _ _
            (every_append Ptr (base_used nv q) _ (base_used_fits nv q p0_in) (used_fits (nv + 1) base.fields p1_in))
            (data_used_fits nd q d0_in),
      ))
  data_field_fits base f (DataRhsKnown k) hb hf h =
      let to = holder_fits (nv + 1) base.var base.fields p1_in (own base.var hb.var) in
      more (loads (nv + 1) base.var base.fields) _
      (loads_fit (nv + 1) base.var base.fields p1_in (own base.var hb.var) hb.fields)
      (((to, (hf, h)), refl), ends_fit _ [] (used_fits (nv + 1) base.fields p1_in) tt)
  data_field_fits base f DataRhsChoice hb hf h =
      let to = holder_fits (nv + 1) base.var base.fields p1_in (own base.var hb.var) in (
        (d0_in, d0_in, refl, refl),
        more (loads (nv + 1) base.var base.fields) _
            (loads_fit (nv + 1) base.var base.fields p1_in (own base.var hb.var) hb.fields)
            (((to, hf, d0_in), refl), ends_fit _ (nd ∷ []) (used_fits (nv + 1) base.fields p1_in) (d0_in, tt)),
      )

  data_row_fits : (to : DataPath) (from : DataRhs) → DataFits to → DataRhsFits from → All (data_row nv nd to from)
  data_row_fits (DataVar x) from hto h = data_var_fits x from (own_datum x hto) h
  data_row_fits (DataField base f) from hto h = data_field_fits base f from hto.0 hto.1 h

  -- Other acts

  below_all : (n : ℕ) → Every (λ x. x < n) (below n)
  below_all n = in_every (λ x. x < n) (below n) (λ x i. below_in n x i)

  dead_fits : All (One (Kill (below (nv + 2)) (below (nd + 2))) ∷ [])
  dead_fits = (((below_all (nv + 2), below_all (nd + 2)), refl), tt)

  abbrev OperandFits : Option DataPath → Type 0
  OperandFits None = Unit {0}
  OperandFits (Some q) = DataFits q

  return_fits : (operand : Option DataPath) → OperandFits operand → All (return_row nv nd operand)
  return_fits None h = dead_fits
  return_fits (Some q) h = more (data_loads nv nd q) _ (data_loads_fit nv nd q p0_in d0_in h) dead_fits

  module _ (typed : is_typed p ≡ true) where
    rhs_fits : (to : Path) (from : PtrRhs) → ActFits p (SetPtr to from) → PathFits to × RhsFits from
    rhs_fits to (RhsPath q) e = let both = agreed (target to) (target q) e in
        (path_fits to both.0 both.1, path_fits q both.0 both.2)
    rhs_fits to RhsNull e = (some_fits to e, tt)
    rhs_fits to (RhsNew shape) e =
        let is = target_is (target to) shape e in (
          path_fits to shape is,
          path_below p to shape (has_shapes_typed p typed) (has_vars_typed p typed)
              (path_leads p to shape is),
        )

    data_rhs_fits : (from : DataRhs) → data_rhs_typed p.shapes.structs p.vars (length p.data_vars) from ≡ true
        → DataRhsFits from
    data_rhs_fits (DataRhsPath q) e = data_fits q e
    data_rhs_fits (DataRhsKnown k) e = leb-true k DATUM e
    data_rhs_fits DataRhsChoice e = tt

    operand_fits : (operand : Option DataPath) → returned_typed p.shapes.structs p.vars (length p.data_vars) operand
        ≡ true → OperandFits operand
    operand_fits None e = tt
    operand_fits (Some q) e = data_fits q e

    pub wider : (n : ℕ) (ms : List ℕ) → Every (λ m. m < n) ms → Every (λ m. m < n + 2) ms
    wider n ms h = every_weaker (λ m. m < n) (λ m. m < n + 2) ms (λ m l. omega (arith, l)) h

    closes_fit : (is : Items) → Ranged p is → All (One (Kill (closed_ptrs is) (closed_datums is)) ∷ [])
    closes_fit is h = let below = closed_below p is h in
        (((wider nv (closed_ptrs is) below.0, wider nd (closed_datums is) below.1), refl), tt)

    pub act_fits : (a : Act) (is : Items) → ActFits p a → Ranged p is → All (act_row nv nd a is)
    act_fits (SetPtr to from) is e h = let both = rhs_fits to from e in ptr_row_fits to from both.0 both.1
    act_fits (SetData to from) is e h =
        let both = and_parts (data_typed p.shapes.structs p.vars (length p.data_vars) to)
        (data_rhs_typed p.shapes.structs p.vars (length p.data_vars) from) e in
        data_row_fits to from (data_fits to both.0) (data_rhs_fits from both.1)
    act_fits (FreeAct q) is e h =
        let fit = some_fits q e in
        more (loads nv q.var q.fields) _ (loads_fit nv q.var q.fields p0_in (own q.var fit.var) fit.fields) (
          (holder_fits nv q.var q.fields p0_in (own q.var fit.var), refl),
          ends_fit _ [] (used_fits nv q.fields p0_in) tt,
        )
    act_fits (Return operand) is e h = return_fits operand (operand_fits operand e)
    act_fits Break is e h = closes_fit is h
    act_fits Continue is e h = closes_fit is h
    act_fits _ is e h = ((tt, refl), tt)
