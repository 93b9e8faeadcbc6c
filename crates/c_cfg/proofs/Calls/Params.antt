-- Parameters of a typed program's functions: each is one of one function alone, no result and no local variable is one,
-- and `main` names none.
use Rattle.std.proofs.Common.{◌≡◌, inl, inr, ℕ, zero, suc, Bool, true, false, true≢false, not, Some, List, [], ◌∷◌}
use Rattle.std.proofs.Common.{◌++◌, length, slice_get, refl, sym, ap, ◌∙◌, subst}
use Rattle.std.specs.List.{list_all, flat_map}
use Rattle.std.proofs.lemmas.Bool.{and_parts, eqb-true, eq-eqb}
use Rattle.fore_base.specs.Lists.{IsIn}
use Rattle.fore_base.proofs.ListLemmas.{in_left, in_right, in_append, in_any, any_in, every_in, tests_every, place_of}
use Rattle.fore_base.proofs.NameLemmas.{in_at}
use Rattle.c_calls.specs.Calls.{Leads, at_once, through, called_by, NoneRecurs, none_recurs}
use Rattle.c_calls.proofs.FewCalls.{test_none}
use Rattle.c_types.specs.declared.program.VarRef.{VarRef}
use Rattle.c_types.specs.declared.program.VarRef.TheVariants.{Ptr as PtrVar, Data as DatumVar}
use Rattle.c_types.specs.declared.program.Func.{Func}
use Rattle.c_types.specs.Bodies.{same_var, is_among, all_among, all_different, maybe_names, result_var, own_vars}
use Rattle.c_types.specs.Bodies.{func_vars, calls_of, body_names, body_declares, keeps_to_own, keeps_to_main}
use Rattle.c_types.specs.Program.{Program, bodies_typed, var_typed, is_typed}
use Rattle.c_types.proofs.WellTyped.{has_funcs_typed, has_none_recurs}

-- Lists of variables

same_self : (v : VarRef) → same_var v v ≡ true
same_self (PtrVar x) = eq-eqb x x refl
same_self (DatumVar x) = eq-eqb x x refl

same_is : (v w : VarRef) → same_var v w ≡ true → v ≡ w
same_is (PtrVar x) (PtrVar y) e = ap PtrVar (eqb-true x y e)
same_is (PtrVar x) (DatumVar y) e = absurd (true≢false (sym e))
same_is (DatumVar x) (PtrVar y) e = absurd (true≢false (sym e))
same_is (DatumVar x) (DatumVar y) e = ap DatumVar (eqb-true x y e)

pub in_among : (vs : List VarRef) (v : VarRef) → IsIn v vs → is_among vs v ≡ true
in_among vs v i = in_any (same_var v) vs v i (same_self v)

pub among_in : (vs : List VarRef) (v : VarRef) → is_among vs v ≡ true → IsIn v vs
among_in vs v e = let w = any_in (same_var v) vs e in subst (λ u. IsIn u vs) (sym (same_is v w.0 w.2)) w.1

not_true : (b : Bool) → b ≡ true → not b ≡ true → ⊥
not_true true e h = true≢false (sym h)
not_true false e h = true≢false (sym e)

-- a variable of the first list is none of the second
parts_apart : (xs ys : List VarRef) (v : VarRef) → all_different (xs ++ ys) ≡ true → IsIn v xs → IsIn v ys → ⊥
parts_apart [] ys v e i j = i
parts_apart (x ∷ xs) ys v e (inl is) j =
    let both = and_parts (not (is_among (xs ++ ys) x)) (all_different (xs ++ ys)) e in
    not_true (is_among (xs ++ ys) x)
    (in_among (xs ++ ys) x (in_right x xs ys (subst (λ u. IsIn u ys) is j))) both.0
parts_apart (x ∷ xs) ys v e (inr i) j =
    parts_apart xs ys v (and_parts (not (is_among (xs ++ ys) x)) (all_different (xs ++ ys)) e).1 i j

different_behind : (xs ys : List VarRef) → all_different (xs ++ ys) ≡ true → all_different ys ≡ true
different_behind [] ys e = e
different_behind (x ∷ xs) ys e =
    different_behind xs ys (and_parts (not (is_among (xs ++ ys) x)) (all_different (xs ++ ys)) e).1

not_more : (vs ws : List VarRef) (v : VarRef) → not (is_among (vs ++ ws) v) ≡ true → not (is_among vs v) ≡ true
not_more vs ws v e = by (is_among vs v) refl
  where
    by : (b : Bool) → is_among vs v ≡ b → not (is_among vs v) ≡ true
    by false is = ap not is
    by true is =
        absurd (not_true (is_among (vs ++ ws) v) (in_among (vs ++ ws) v (in_left v vs ws (among_in vs v is))) e)

different_before : (xs ys : List VarRef) → all_different (xs ++ ys) ≡ true → all_different xs ≡ true
different_before [] ys e = refl
different_before (x ∷ xs) ys e =
    let both = and_parts (not (is_among (xs ++ ys) x)) (all_different (xs ++ ys)) e in
    rw (not_more xs ys x both.0) (different_before xs ys both.1)

in_flat : {X Y : Type 0} (g : X → List Y) (xs : List X) (x : X) (v : Y) → IsIn x xs → IsIn v (g x)
    → IsIn v (flat_map g xs)
in_flat g [] x v i j = absurd i
in_flat g (y ∷ xs) x v (inl is) j = in_left v (g y) (flat_map g xs) (subst (λ z. IsIn v (g z)) is j)
in_flat g (y ∷ xs) x v (inr i) j = in_right v (g y) (flat_map g xs) (in_flat g xs x v i j)

-- Functions

abbrev all_of : Func → List VarRef
all_of f = result_var f ++ own_vars f

one_place : (fs : List Func) → all_different (func_vars fs) ≡ true → (i j : ℕ) (f g : Func) (v : VarRef)
    → slice_get fs i ≡ Some f → slice_get fs j ≡ Some g → IsIn v (all_of f) → IsIn v (all_of g) → i ≡ j
one_place [] e i j f g v a b h k = cc
one_place (x ∷ fs) e zero zero f g v a b h k = refl
one_place (x ∷ fs) e zero (suc j) f g v a b h k =
    let same : x ≡ f = cc in
    absurd
    (parts_apart (all_of x) (func_vars fs) v e (subst (λ z. IsIn v (all_of z)) (sym same) h)
    (in_flat all_of fs g v (in_at fs j g b) k))
one_place (x ∷ fs) e (suc i) zero f g v a b h k =
    let same : x ≡ g = cc in
    absurd
    (parts_apart (all_of x) (func_vars fs) v e (subst (λ z. IsIn v (all_of z)) (sym same) k)
    (in_flat all_of fs f v (in_at fs i f a) h))
one_place (x ∷ fs) e (suc i) (suc j) f g v a b h k =
    ap suc (one_place fs (different_behind (all_of x) (func_vars fs) e) i j f g v a b h k)

func_different : (fs : List Func) (f : Func) → all_different (func_vars fs) ≡ true → IsIn f fs
    → all_different (all_of f) ≡ true
func_different [] f e i = absurd i
func_different (x ∷ fs) f e (inl is) =
    subst (λ z. all_different (all_of z) ≡ true) (sym is) (different_before (all_of x) (func_vars fs) e)
func_different (x ∷ fs) f e (inr i) = func_different fs f (different_behind (all_of x) (func_vars fs) e) i

-- the pointer variable is a parameter of a function
pub record IsParam (fs : List Func) (x : ℕ) : Type 0 where
  pub number : ℕ
  pub func : Func
  pub is_there : slice_get fs number ≡ Some func
  pub is_param : IsIn (PtrVar x) func.params

param_own : (f : Func) (v : VarRef) → IsIn v f.params → IsIn v (all_of f)
param_own f v i = in_right v (result_var f) (own_vars f) (in_left v f.params f.locals i)

module _ (p : Program) (typed : is_typed p ≡ true) where
  vars_differ : (all_different (func_vars p.funcs) ≡ true) × (keeps_to_main p.funcs p.body ≡ true)
  vars_differ =
      and_parts (all_different (func_vars p.funcs)) (keeps_to_main p.funcs p.body)
      (and_parts (list_all (var_typed p.shapes.structs p.vars (length p.data_vars)) (func_vars p.funcs)) _
      (and_parts (bodies_typed p.shapes.structs p.vars (length p.data_vars) p.funcs 0 p.funcs) _
      (and_parts (none_recurs (calls_of p.funcs)) _ (has_funcs_typed p typed)).1).1).1

  pub one_func : (x : ℕ) (a b : IsParam p.funcs x) → a.number ≡ b.number
  one_func x a b =
      one_place p.funcs vars_differ.0 a.number b.number a.func b.func (PtrVar x) a.is_there b.is_there
      (param_own a.func (PtrVar x) a.is_param) (param_own b.func (PtrVar x) b.is_param)

  -- what is a variable of a function, but none of its parameters, is no parameter
  foreign : (g : Func) (x : ℕ) → IsIn g p.funcs → IsIn (PtrVar x) (all_of g) → (IsIn (PtrVar x) g.params → ⊥)
      → IsParam p.funcs x → ⊥
  foreign g x there i other a =
      let at = place_of p.funcs g there in
      let same : a.number ≡ at.0 =
      one_place p.funcs vars_differ.0 a.number at.0 a.func g (PtrVar x) a.is_there at.1
      (param_own a.func (PtrVar x) a.is_param) i in
      let found : slice_get p.funcs a.number ≡ Some g = ap (slice_get p.funcs) same ∙ at.1 in
      let one : Some a.func ≡ Some g = sym a.is_there ∙ found in
      let is : a.func ≡ g = cc in
      other (subst (λ (f : Func). IsIn (PtrVar x) f.params) is a.is_param)

  pub local_foreign : (g : Func) (x : ℕ) → IsIn g p.funcs → IsIn (PtrVar x) g.locals → IsParam p.funcs x → ⊥
  local_foreign g x there i =
      foreign g x there (in_right (PtrVar x) (result_var g) (own_vars g) (in_right (PtrVar x) g.params g.locals i))
      (λ j. parts_apart g.params g.locals (PtrVar x)
      (different_behind (result_var g) (own_vars g) (func_different p.funcs g vars_differ.0 there)) j i)

  pub result_foreign : (g : Func) (x : ℕ) → IsIn g p.funcs → g.result ≡ Some (PtrVar x) → IsParam p.funcs x → ⊥
  result_foreign g x there e =
      let i : IsIn (PtrVar x) (result_var g) =
      subst (λ o. IsIn (PtrVar x) (maybe_names (λ v. v ∷ []) o)) (sym e) (inl refl) in
      foreign g x there (in_left (PtrVar x) (result_var g) (own_vars g) i)
      (λ j. parts_apart (result_var g) (own_vars g) (PtrVar x) (func_different p.funcs g vars_differ.0 there) i
      (in_left (PtrVar x) g.params g.locals j))

  -- a body of a function names its parameters and local variables
  own_named : (g : Func) (v : VarRef) → keeps_to_own g ≡ true → IsIn v (body_names g.body) → IsIn v (own_vars g)
  own_named g v e i =
      among_in (own_vars g) v
      (every_in (λ w. is_among (own_vars g) w ≡ true) (body_names g.body) v
      (tests_every (is_among (own_vars g)) (body_names g.body)
      (and_parts (all_among (own_vars g) (body_names g.body)) _ e).0) i)

  -- so a parameter that it names is its own
  pub named_own : (g : Func) (x : ℕ) → IsIn g p.funcs → keeps_to_own g ≡ true → IsIn (PtrVar x) (body_names g.body)
      → IsParam p.funcs x → IsIn (PtrVar x) g.params
  named_own g x there e i a = elim (in_append (PtrVar x) g.params g.locals (own_named g (PtrVar x) e i)) [
    | inl own ↦ own
    | inr loc ↦ absurd (local_foreign g x there loc a)
  ]

  -- main names none
  pub main_names_none : (x : ℕ) → IsIn (PtrVar x) (body_names p.body) → IsParam p.funcs x → ⊥
  main_names_none x i a =
      not_true (is_among (func_vars p.funcs) (PtrVar x))
      (in_among (func_vars p.funcs) (PtrVar x)
      (in_flat all_of p.funcs a.func (PtrVar x) (in_at p.funcs a.number a.func a.is_there)
      (param_own a.func (PtrVar x) a.is_param)))
      (every_in (λ w. not (is_among (func_vars p.funcs) w) ≡ true) (body_names p.body ++ body_declares p.body)
      (PtrVar x)
      (tests_every (λ w. not (is_among (func_vars p.funcs) w)) (body_names p.body ++ body_declares p.body)
      vars_differ.1) (in_left (PtrVar x) (body_names p.body) (body_declares p.body) i))

  pub free : NoneRecurs (calls_of p.funcs)
  free = test_none (calls_of p.funcs) (has_none_recurs p typed)

-- a call more
pub leads_on : (calls : List (List ℕ)) (x f g : ℕ) → Leads calls x f → IsIn g (called_by calls f) → Leads calls x g
leads_on calls x f g (at_once i) k = through f i (at_once k)
leads_on calls x f g (through h i l) k = through h i (leads_on calls h f g l k)
