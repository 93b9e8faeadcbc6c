-- Each number of the edges of a call, and of a `return` of a function, is in range.
use Rattle.std.proofs.Common.{◌≡◌, ◌<◌, ◌+◌, ℕ, Bool, true, nat_lt, Option, Some, None, List, [], ◌∷◌, ◌++◌, length}
use Rattle.std.proofs.Common.{inl, inr, refl, sym, subst}
use Rattle.std.specs.List.{list_all, flat_map}
use Rattle.std.proofs.lemmas.Bool.{and_parts, and_from, ltb-true, leb-true}
use Rattle.fore_base.specs.declared.limits.TheConstants.{DATUM}
use Rattle.fore_base.specs.Lists.{Every, IsIn}
use Rattle.fore_base.proofs.ListLemmas.{every_append}
use Rattle.c_types.specs.declared.program.Path.{Path}
use Rattle.c_types.specs.declared.program.DataPath.{DataPath}
use Rattle.c_types.specs.declared.program.DataPath.TheVariants.{Var as DataVar, Field as DataField}
use Rattle.c_types.specs.declared.program.PtrOp.TheVariants.{Path as OpPath, Null as OpNull}
use Rattle.c_types.specs.declared.program.DataOp.{DataOp}
use Rattle.c_types.specs.declared.program.DataOp.TheVariants.{Path as DataOpPath, Known as DataOpKnown}
use Rattle.c_types.specs.declared.program.VarRef.{VarRef}
use Rattle.c_types.specs.declared.program.VarRef.TheVariants.{Ptr as PtrRef, Data as DataRef}
use Rattle.c_types.specs.declared.program.Arg.{Arg}
use Rattle.c_types.specs.declared.program.Arg.TheVariants.{Ptr as GivenPtr, Data as GivenData}
use Rattle.c_types.specs.declared.program.Dest.{Dest}
use Rattle.c_types.specs.declared.program.Dest.TheVariants.{Ptr as ToPtr, Data as ToData}
use Rattle.c_types.specs.declared.program.Func.{Func}
use Rattle.c_types.specs.Bodies.{maybe_names, result_var, own_vars}
use Rattle.c_types.specs.Program.{Program, path_target, data_typed, data_op_typed, var_typed, arg_typed, args_typed}
use Rattle.c_types.specs.Program.{value_typed, dest_typed, to_typed, is_typed}
use Rattle.c_types.specs.Control.{ptr_vars, datum_vars, with_result}
use Rattle.c_types.specs.Fits.{EnterFits, LeaveFits, ExitFits}
use Rattle.c_types.proofs.WellTyped.{has_vars_known}
use Rattle.c_types.proofs.StepLaws.{agreed}
use Rattle.c_cfg.specs.declared.graph.Instr.TheVariants.{LoadPtr, StorePtr}
use Rattle.c_cfg.specs.Links.{Link, loads, used_before, give_path, give_datum, give_links, given_used, give_each}
use Rattle.c_cfg.specs.Links.{one_used, each_used, enter_row, die, leave_row, hand_ptr, hand_datum, hand_links}
use Rattle.c_cfg.specs.Links.{dest_used, exit_row}
use Rattle.c_cfg.specs.Ranges.{IsPtrField}
use Rattle.c_cfg.proofs.Ranged.{insert_below}
use Rattle.c_cfg.proofs.RangedLinks.{PathFits, path_fits, some_fits, data_fits, LinkFits, All, more, Ptr, Datum}
use Rattle.c_cfg.proofs.RangedLinks.{own, own_datum, p0_in, p1_in, loads_fit, holder_fits, used_fits, ends_fit}
use Rattle.c_cfg.proofs.RangedLinks.{last_fits, data_loads_fit, base_used_fits, wider}

-- What is true of all items of lists one after the other is true of those of each.

all_parts : {X : Type 0} (P : X → Bool) (xs ys : List X) → list_all P (xs ++ ys) ≡ true → (list_all P xs ≡ true)
    × (list_all P ys ≡ true)
all_parts P [] ys e = (refl, e)
all_parts P (x ∷ xs) ys e =
    let both = and_parts (P x) (list_all P (xs ++ ys)) e in
    let rest = all_parts P xs ys both.1 in
    (and_from (P x) (list_all P xs) both.0 rest.0, rest.1)

in_flat : {X Y : Type 0} (P : Y → Bool) (g : X → List Y) (xs : List X) (x : X) → IsIn x xs
    → list_all P (flat_map g xs) ≡ true → list_all P (g x) ≡ true
in_flat P g [] x i e = absurd i
in_flat P g (y ∷ xs) x (inl is) e =
    subst (λ z. list_all P (g z) ≡ true) (sym is) (all_parts P (g y) (flat_map g xs) e).0
in_flat P g (y ∷ xs) x (inr i) e = in_flat P g xs x i (all_parts P (g y) (flat_map g xs) e).1

module _ (p : Program) where
  abbrev nv : ℕ
  nv = length p.vars

  abbrev nd : ℕ
  nd = length p.data_vars

  abbrev Fit : List Link → Type 0
  Fit ls = All p ls

  abbrev IsPtr : ℕ → Type 0
  IsPtr x = Ptr p x

  -- the path of a variable alone
  abbrev bare : ℕ → Path
  bare x = record { var = x; fields = [] }

  -- What is given

  path_given_fits : (x : ℕ) (q : Path) → IsPtr x → PathFits p q → Fit (give_path nv nd x q.var q.fields)
  path_given_fits x q hx h = by_fields q.fields h.fields
    where
      by_fields : (fs : List ℕ) → Every (IsPtrField p.shapes.structs) fs → Fit (give_path nv nd x q.var fs)
      by_fields [] hf = (((hx, own p q.var h.var), refl), tt)
      by_fields (f ∷ fs) hf =
          last_fits p nv q.var f fs (λ c g. LoadPtr x c g) (p0_in p) (own p q.var h.var) hf
          (λ c g hc hg. ((hx, hc, hg), refl))

  datum_given_fits : (x : ℕ) (a : DataOp) → Datum p x
      → data_op_typed p.shapes.structs p.vars (length p.data_vars) a ≡ true → Fit (give_datum nv nd x a)
  datum_given_fits x (DataOpPath (DataVar y)) hx e = (((hx, own_datum p y (ltb-true y nd e)), refl), tt)
  datum_given_fits x (DataOpPath (DataField base f)) hx e =
      data_loads_fit p nv x (DataField base f) (p0_in p) hx (data_fits p (DataField base f) e)
  datum_given_fits x (DataOpKnown k) hx e = (((hx, leb-true k DATUM e), refl), tt)

  abbrev fits_arg : VarRef → Arg → Type 0
  fits_arg v a = arg_typed p.shapes.structs p.vars (length p.data_vars) v a ≡ true

  abbrev target : Path → Option ℕ
  target q = path_target p.shapes.structs p.vars (length p.data_vars) q

  given_fits : (v : VarRef) (a : Arg) → fits_arg v a → Fit (give_links nv nd v a)
  given_fits (PtrRef x) (GivenPtr (OpPath q)) e =
      let both = agreed (target (bare x)) (target q) e in
      path_given_fits x q (own p x (path_fits p (bare x) both.0 both.1).var) (path_fits p q both.0 both.2)
  given_fits (PtrRef x) (GivenPtr OpNull) e = (((own p x (some_fits p (bare x) e).var, tt), refl), tt)
  given_fits (PtrRef x) (GivenData a) e = (((tt, tt), refl), tt)
  given_fits (DataRef x) (GivenPtr a) e = (((tt, tt), refl), tt)
  given_fits (DataRef x) (GivenData a) e =
      let both = and_parts (nat_lt x nd) (data_op_typed p.shapes.structs p.vars (length p.data_vars) a) e in
      datum_given_fits x a (own_datum p x (ltb-true x nd both.0)) both.1

  before_fits : (t : ℕ) (fs : List ℕ) → IsPtr t → Every IsPtr (used_before t fs)
  before_fits t [] ht = tt
  before_fits t (f ∷ fs) ht = used_fits p t fs ht

  given_used_fits : (a : Arg) → Every IsPtr (given_used nv nd a)
  given_used_fits (GivenPtr (OpPath q)) = before_fits nv q.fields (p0_in p)
  given_used_fits (GivenPtr OpNull) = tt
  given_used_fits (GivenData (DataOpPath q)) = base_used_fits p nv q (p0_in p)
  given_used_fits (GivenData (DataOpKnown k)) = tt

  one_used_fits : (us ts : List ℕ) → Every IsPtr us → Every IsPtr ts → Every IsPtr (one_used nv nd us ts)
  one_used_fits [] ts h k = k
  one_used_fits (u ∷ us) ts h k = (h.0, tt)

  each_used_fits : (ws : List Arg) → Every IsPtr (each_used nv nd ws)
  each_used_fits [] = tt
  each_used_fits (a ∷ ws) = one_used_fits (given_used nv nd a) _ (given_used_fits a) (each_used_fits ws)

  each_given_fits : (vs : List VarRef) (ws : List Arg)
      → args_typed p.shapes.structs p.vars (length p.data_vars) vs ws ≡ true → Fit (give_each nv nd vs ws)
  each_given_fits [] ws e = tt
  each_given_fits (v ∷ vs) [] e = tt
  each_given_fits (v ∷ vs) (a ∷ ws) e =
      let both = and_parts (arg_typed p.shapes.structs p.vars (length p.data_vars) v a)
      (args_typed p.shapes.structs p.vars (length p.data_vars) vs ws) e in
      more p (give_links nv nd v a) _ (given_fits v a both.0) (each_given_fits vs ws both.1)

  -- What dies

  -- variables of the program
  abbrev pub Known : List VarRef → Type 0
  Known vs = list_all (var_typed p.shapes.structs p.vars (length p.data_vars)) vs ≡ true

  pub ptrs_known : (vs : List VarRef) → Known vs → Every (λ x. x < nv) (ptr_vars vs)
  ptrs_known [] e = tt
  ptrs_known (PtrRef x ∷ vs) e =
      let both = and_parts (nat_lt x nv) (list_all (var_typed p.shapes.structs p.vars (length p.data_vars)) vs) e in
      insert_below p nv x (ptr_vars vs) (ltb-true x nv both.0) (ptrs_known vs both.1)
  ptrs_known (DataRef x ∷ vs) e =
      ptrs_known vs
      (and_parts (nat_lt x nd) (list_all (var_typed p.shapes.structs p.vars (length p.data_vars)) vs) e).1

  datums_known : (vs : List VarRef) → Known vs → Every (λ x. x < nd) (datum_vars vs)
  datums_known [] e = tt
  datums_known (PtrRef x ∷ vs) e =
      datums_known vs
      (and_parts (nat_lt x nv) (list_all (var_typed p.shapes.structs p.vars (length p.data_vars)) vs) e).1
  datums_known (DataRef x ∷ vs) e =
      let both = and_parts (nat_lt x nd) (list_all (var_typed p.shapes.structs p.vars (length p.data_vars)) vs) e in
      insert_below p nd x (datum_vars vs) (ltb-true x nd both.0) (datums_known vs both.1)

  module _ (typed : is_typed p ≡ true) where
    die_fits : (vs : List VarRef) (ts : List ℕ) → Known vs → Every IsPtr ts → LinkFits p (die nv nd vs ts)
    die_fits vs ts known ht = (
      (
        every_append IsPtr (ptr_vars vs) ts (wider p typed nv (ptr_vars vs) (ptrs_known vs known)) ht,
        wider p typed nd (datum_vars vs) (datums_known vs known),
      ),
      refl,
    )

    -- the variables of a function of the program
    pub func_known : (g : Func) → IsIn g p.funcs → Known (result_var g) × Known g.params × Known g.locals
    func_known g there =
        let P = var_typed p.shapes.structs p.vars (length p.data_vars) in
        let all = in_flat P (λ f. result_var f ++ own_vars f) p.funcs g there (has_vars_known p typed) in
        let first = all_parts P (result_var g) (own_vars g) all in
        let second = all_parts P g.params g.locals first.1 in
        (first.0, second.0, second.1)

    pub result_known : (v : Option VarRef) (g : Func) (vs : List VarRef) → v ≡ g.result → Known (result_var g)
        → Known vs → Known (with_result v vs)
    result_known v g vs is known rest = by v (subst (λ o. Known (maybe_names (λ w. w ∷ []) o)) (sym is) known)
      where
        by : (o : Option VarRef) → Known (maybe_names (λ w. w ∷ []) o) → Known (with_result o vs)
        by None k = rest
        by (Some w) k =
            and_from (var_typed p.shapes.structs p.vars (length p.data_vars) w) _ (and_parts _ true k).0 rest

    -- Rows

    pub enter_fits : (vs : List VarRef) (ws : List Arg) → EnterFits p vs ws → Fit (enter_row nv nd vs ws)
    enter_fits vs ws h = by vs ws h.args_fit
      where
        by : (vs : List VarRef) (ws : List Arg)
            → args_typed p.shapes.structs p.vars (length p.data_vars) vs ws ≡ true → Fit (enter_row nv nd vs ws)
        by [] ws e = (((tt, tt), refl), tt)
        by (v ∷ vs) [] e = (((tt, tt), refl), tt)
        by (v ∷ vs) (a ∷ ws) e =
            more p (give_each nv nd (v ∷ vs) (a ∷ ws)) _ (each_given_fits (v ∷ vs) (a ∷ ws) e)
            (ends_fit p (each_used nv nd (a ∷ ws)) [] (each_used_fits (a ∷ ws)) tt)

    pub leave_fits : (v : Option VarRef) (vs : List VarRef) (a : Option Arg) → LeaveFits p v vs a
        → Fit (leave_row nv nd v vs a)
    leave_fits v vs a h = by v a h.value_fits
      where
        known : Known vs
        known = subst Known (sym h.locals_are) (func_known h.func h.is_there).2

        by : (v : Option VarRef) (a : Option Arg)
            → value_typed p.shapes.structs p.vars (length p.data_vars) v a ≡ true → Fit (leave_row nv nd v vs a)
        by None a e = (die_fits vs [] known tt, tt)
        by (Some v) None e = (die_fits vs [] known tt, tt)
        by (Some v) (Some a) e =
            more p (give_links nv nd v a) _ (given_fits v a e)
            (die_fits vs (given_used nv nd a) known (given_used_fits a), tt)

    datum_handed_fits : (x : ℕ) (q : DataPath) → Datum p x
        → data_typed p.shapes.structs p.vars (length p.data_vars) q ≡ true → Fit (hand_datum nv nd x q)
    datum_handed_fits x (DataVar y) hx e = (((own_datum p y (ltb-true y nd e), hx), refl), tt)
    datum_handed_fits x (DataField base f) hx e =
        let fit = data_fits p (DataField base f) e in
        more p (loads (nv + 1) base.var base.fields) _
        (loads_fit p (nv + 1) base.var base.fields (p1_in p) (own p base.var fit.0.var) fit.0.fields)
        (((holder_fits p (nv + 1) base.var base.fields (p1_in p) (own p base.var fit.0.var), fit.1, hx), refl), tt)

    ptr_handed_fits : (x : ℕ) (q : Path) → IsPtr x → PathFits p q → Fit (hand_ptr nv nd x q.var q.fields)
    ptr_handed_fits x q hx h = by_fields q.fields h.fields
      where
        by_fields : (fs : List ℕ) → Every (IsPtrField p.shapes.structs) fs → Fit (hand_ptr nv nd x q.var fs)
        by_fields [] hf = (((own p q.var h.var, hx), refl), tt)
        by_fields (f ∷ fs) hf =
            last_fits p (nv + 1) q.var f fs (λ b g. StorePtr b g x) (p1_in p) (own p q.var h.var) hf
            (λ c g hc hg. ((hc, hg, hx), refl))

    handed_fits : (v : VarRef) (d : Dest) → dest_typed p.shapes.structs p.vars (length p.data_vars) v d ≡ true
        → Fit (hand_links nv nd v d)
    handed_fits (PtrRef x) (ToPtr q) e =
        let both = agreed (target (bare x)) (target q) e in
        ptr_handed_fits x q (own p x (path_fits p (bare x) both.0 both.1).var) (path_fits p q both.0 both.2)
    handed_fits (PtrRef x) (ToData q) e = tt
    handed_fits (DataRef x) (ToPtr q) e = tt
    handed_fits (DataRef x) (ToData q) e =
        let both = and_parts (nat_lt x nd) (data_typed p.shapes.structs p.vars (length p.data_vars) q) e in
        datum_handed_fits x q (own_datum p x (ltb-true x nd both.0)) both.1

    dest_used_fits : (d : Dest) → Every IsPtr (dest_used nv nd d)
    dest_used_fits (ToPtr q) = before_fits (nv + 1) q.fields (p1_in p)
    dest_used_fits (ToData q) = base_used_fits p (nv + 1) q (p1_in p)

    pub exit_fits : (v : Option VarRef) (vs : List VarRef) (d : Option Dest) → ExitFits p v vs d
        → Fit (exit_row nv nd v vs d)
    exit_fits v vs d h = by v d h.to_fits (result_known v h.func vs h.result_is parts.0 known)
      where
        parts : Known (result_var h.func) × Known h.func.params × Known h.func.locals
        parts = func_known h.func h.is_there

        known : Known vs
        known = subst Known (sym h.params_are) parts.1

        by : (v : Option VarRef) (d : Option Dest)
            → to_typed p.shapes.structs p.vars (length p.data_vars) v d ≡ true → Known (with_result v vs)
            → Fit (exit_row nv nd v vs d)
        by None d e k = (die_fits vs [] known tt, tt)
        by (Some v) None e k = (die_fits (with_result (Some v) vs) [] k tt, tt)
        by (Some v) (Some d) e k =
            more p (hand_links nv nd v d) _ (handed_fits v d e)
            (die_fits (with_result (Some v) vs) (dest_used nv nd d) k (dest_used_fits d), tt)
