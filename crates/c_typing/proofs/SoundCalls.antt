-- Calls, arguments and results of what is good are typed.
use Rattle.std.proofs.Common.{◌≡◌, ◌<◌, ℕ, zero, suc, cond, Bool, true, false, not, ◌&&◌, nat_eq, nat_lt, List, [], ◌∷◌}
use Rattle.std.proofs.Common.{length, map, Option, Some, None, is_some, slice_get, refl, sym, ap, ◌∙◌}
use Rattle.std.proofs.Common.{subst, arith, true≢false}
use Rattle.std.proofs.lemmas.Bool.{eqb-true, eq-eqb, not-false}
use Rattle.std.proofs.lemmas.List.{length-map}
use Rattle.c_ast.specs.declared.operands.Operand.{Operand}
use Rattle.c_types.specs.Program.{Spot, var_target, path_target, arg_typed, args_typed, to_typed, value_typed}
use Rattle.c_types.specs.Program.{call_typed}
use Rattle.c_types.specs.Program.{data_op_typed, stmt_typed, data_typed, returns_typed, act_typed}
use Rattle.c_types.specs.declared.program.Act.TheVariants as act
use Rattle.c_types.specs.declared.program.Dest.{Dest}
use Rattle.c_types.specs.declared.program.Func.{Func}
use Rattle.c_types.specs.declared.program.Stmt.TheVariants.{Call as Calling}
use Rattle.c_types.specs.declared.program.VarDef.{VarDef}
use Rattle.c_types.specs.declared.program.VarRef.{VarRef}
use Rattle.c_types.specs.declared.program.VarRef.TheVariants.{Ptr, Data}
use Rattle.c_types.proofs.Layers.{typed-Call}
use Rattle.c_typing.specs.BodySites.{maybe_sites}
use Rattle.c_typing.specs.Functions.{called_number, function_at, called, params_in, is_counted}
use Rattle.c_typing.specs.Globals.{Globals, function_name, maybe_result, function_number, result_at}
use Rattle.c_typing.specs.Meanings.{meaning_of_operand, place_of_operand}
use Rattle.c_typing.specs.Profile.{given}
use Rattle.c_typing.specs.Programs.{arg_of, args_of, data_op_of, dest_of, returned_value, return_act, returned_operand}
use Rattle.c_typing.specs.Rules.{differ, wanted_struct}
use Rattle.c_typing.specs.Rules.{may_return}
use Rattle.c_typing.specs.Scopes.{Scope}
use Rattle.c_typing.specs.Sites.{arguments_sites, operand_sites, stands, struct_at, wanted_sites, want_of_kind}
use Rattle.c_typing.specs.Sites.{want_of_target, want_of_result, want_of_return}
use Rattle.c_typing.specs.Texts.{Text, has}
use Rattle.c_typing.specs.declared.meaning.FunctionDef.{FunctionDef}
use Rattle.c_typing.specs.declared.meaning.Kind.{Kind}
use Rattle.c_typing.specs.declared.meaning.Kind.TheVariants.{Points, Datum as DatumKind}
use Rattle.c_typing.specs.declared.meaning.Meaning.{Meaning}
use Rattle.c_typing.specs.declared.meaning.Meaning.TheVariants as meaning
use Rattle.c_typing.specs.declared.meaning.Spot.TheVariants.{Elsewhere}
use Rattle.c_typing.proofs.Clean.{IsClean, IsGiven, clean_parts, clean_first, no_other}
use Rattle.c_typing.proofs.Sound.{GoodBlocks, GoodGlobals, GoodMeaning, number_below, operand_good, shapes}
use Rattle.c_typing.proofs.SoundActs.{data_op_good, one_struct, returned_good}
use Rattle.c_typing.proofs.Trees.{OfOption}

differ_turned : (s t : ℕ) → differ (Some s) (Some t) ≡ false → differ (Some t) (Some s) ≡ false
differ_turned s t same =
    let is : s ≡ t = eqb-true s t (not-false (nat_eq s t) same) in ap not (eq-eqb t s (sym is))

-- a call is of a function that is there
called_below : (g : Globals) (x : Text) → OfOption (λ k. k < length g.functions) (called_number g x)
called_below g x = either (has x given)
  where
    either : (b : Bool) → OfOption (λ k. k < length g.functions) (cond b None (function_number g x))
    either true = tt
    either false = subst (λ n. OfOption (λ k. k < n) (function_number g x)) (length-map g.functions function_name)
        (number_below x (map function_name g.functions))

module _ (g : Globals) (V : List VarDef) (D : ℕ) where
  -- this variable is of this kind
  abbrev pub GoodRef : Kind → VarRef → Type 0
  GoodRef (Points None) v = ⊥
  GoodRef (Points (Some s)) (Ptr x) = var_target V x ≡ Some s
  GoodRef (Points (Some s)) (Data x) = ⊥
  GoodRef DatumKind (Ptr x) = ⊥
  GoodRef DatumKind (Data x) = nat_lt x D ≡ true

  abbrev pub GoodRefs : List Kind → List VarRef → Type 0
  GoodRefs [] [] = Unit {0}
  GoodRefs [] (v ∷ vs) = ⊥
  GoodRefs (k ∷ ks) [] = ⊥
  GoodRefs (k ∷ ks) (v ∷ vs) = GoodRef k v × GoodRefs ks vs

  abbrev pub GoodResult : Option Kind → Option VarRef → Type 0
  GoodResult None None = Unit {0}
  GoodResult None (Some v) = ⊥
  GoodResult (Some k) None = ⊥
  GoodResult (Some k) (Some v) = GoodRef k v

  abbrev pub GoodFunc : FunctionDef → Func → Type 0
  GoodFunc d f = GoodRefs d.params f.params × GoodResult d.result f.result

  -- the functions of the program are those of the file
  abbrev pub GoodFuncs : List FunctionDef → List Func → Type 0
  GoodFuncs [] [] = Unit {0}
  GoodFuncs [] (f ∷ fs) = ⊥
  GoodFuncs (d ∷ ds) [] = ⊥
  GoodFuncs (d ∷ ds) (f ∷ fs) = GoodFunc d f × GoodFuncs ds fs

  abbrev pub There : List FunctionDef → List Func → ℕ → Type 0
  There ds fs n =
      (d : FunctionDef) × ((f : Func) × (((slice_get ds n ≡ Some d) × (slice_get fs n ≡ Some f)) × GoodFunc d f))

  pub func_there : (ds : List FunctionDef) (fs : List Func) (n : ℕ) → GoodFuncs ds fs → n < length ds → There ds fs n
  func_there [] fs n all below = absurd (omega (arith, below))
  func_there (d ∷ ds) [] n all below = absurd all
  func_there (d ∷ ds) (f ∷ fs) zero all below = (d, (f, ((refl, refl), all.0)))
  func_there (d ∷ ds) (f ∷ fs) (suc n) all below =
      let r : There ds fs n = func_there ds fs n all.1 (omega (arith, below)) in r

  -- Arguments

  ptr_arg_good : (s x : ℕ) (m : Meaning) → var_target V x ≡ Some s → GoodMeaning g V D m
      → differ (Some s) (struct_at m) ≡ false
      → arg_typed (shapes g V D) V D (Ptr x) (arg_of (Points (Some s)) m) ≡ true
  ptr_arg_good s x (meaning.Pointer q None) is good same = absurd good
  ptr_arg_good s x (meaning.Pointer q (Some t)) is good same =
      one_struct s t (var_target V x) (path_target (shapes g V D) V D q) is good same
  ptr_arg_good s x _ is good same = ap is_some is

  pub arg_good : (k : Kind) (v : VarRef) (m : Meaning) → GoodRef k v → GoodMeaning g V D m
      → differ (wanted_struct (want_of_kind k)) (struct_at m) ≡ false
      → arg_typed (shapes g V D) V D v (arg_of k m) ≡ true
  arg_good (Points (Some s)) (Ptr x) m ref good same = ptr_arg_good s x m ref good same
  arg_good DatumKind (Data x) m ref good same = ap (λ b. b && data_op_typed (shapes g V D) V D (data_op_of m)) ref
      ∙ data_op_good g V D m good
  arg_good _ _ m ref good same = absurd ref

  -- What a result is assigned to

  ptr_dest_good : (k : Kind) (v : VarRef) (p : _) (s : ℕ) → GoodRef k v → path_target (shapes g V D) V D p ≡ Some s
      → IsGiven g (want_of_target (meaning.Pointer p (Some s))) (Some k)
      → to_typed (shapes g V D) V D (Some v) (dest_of (meaning.Pointer p (Some s))) ≡ true
  ptr_dest_good (Points None) v p s ref good c = absurd ref
  ptr_dest_good (Points (Some t)) (Ptr x) p s ref good c =
      one_struct t s (var_target V x) (path_target (shapes g V D) V D p) ref good (differ_turned s t c.0.0)
  ptr_dest_good (Points (Some t)) (Data x) p s ref good c = absurd ref
  ptr_dest_good DatumKind v p s ref good c = absurd (true≢false c.0.1)

  data_dest_good : (k : Kind) (v : VarRef) (d : _) → GoodRef k v → data_typed (shapes g V D) V D d ≡ true
      → IsGiven g (want_of_target (meaning.Datum d)) (Some k)
      → to_typed (shapes g V D) V D (Some v) (dest_of (meaning.Datum d)) ≡ true
  data_dest_good (Points to) v d ref good c = absurd (true≢false c.1.0)
  data_dest_good DatumKind (Ptr x) d ref good c = absurd ref
  data_dest_good DatumKind (Data x) d ref good c = ap (λ b. b && data_typed (shapes g V D) V D d) ref ∙ good

  some_dest_good : (k : Kind) (v : VarRef) (target : Meaning) → GoodRef k v → GoodMeaning g V D target
      → IsGiven g (want_of_target target) (Some k)
      → to_typed (shapes g V D) V D (Some v) (dest_of target) ≡ true
  some_dest_good k v (meaning.Pointer p None) ref good c = absurd good
  some_dest_good k v (meaning.Pointer p (Some s)) ref good c = ptr_dest_good k v p s ref good c
  some_dest_good k v (meaning.Datum d) ref good c = data_dest_good k v d ref good c
  some_dest_good k v _ ref good c = refl

  -- the result of a function where a target wants it
  pub dest_good : (k : Option Kind) (v : Option VarRef) (target : Meaning) → GoodResult k v → GoodMeaning g V D target
      → IsGiven g (want_of_target target) k → to_typed (shapes g V D) V D v (dest_of target) ≡ true
  dest_good None v target ref good c = absurd (true≢false c.1.1)
  dest_good (Some k) None target ref good c = absurd ref
  dest_good (Some k) (Some v) target ref good c = some_dest_good k v target ref good c

  -- the result of a function that nobody wants
  pub no_dest_good : (v : Option VarRef) → to_typed (shapes g V D) V D v None ≡ true
  no_dest_good None = refl
  no_dest_good (Some v) = refl

  module _ (n : ℕ) (globals : GoodGlobals n g) (scope : Scope) (blocks : GoodBlocks g V D scope.blocks) where
    -- an argument for each parameter
    pub args_good : (ks : List Kind) (vs : List VarRef) (os : List Operand) → GoodRefs ks vs
        → length ks ≡ length os → IsClean g (arguments_sites g scope ks os)
        → args_typed (shapes g V D) V D vs (args_of g scope ks os) ≡ true
    args_good [] [] [] refs long c = refl
    args_good [] [] (o ∷ os) refs long c = absurd (omega (arith, long))
    args_good [] (v ∷ vs) os refs long c = absurd refs
    args_good (k ∷ ks) [] os refs long c = absurd refs
    args_good (k ∷ ks) (v ∷ vs) [] refs long c = absurd (omega (arith, long))
    args_good (k ∷ ks) (v ∷ vs) (o ∷ os) refs long c =
        let halves : IsClean g (wanted_sites g scope Elsewhere (want_of_kind k) o)
        × IsClean g (arguments_sites g scope ks os) =
        clean_parts g (wanted_sites g scope Elsewhere (want_of_kind k) o) (arguments_sites g scope ks os) c in
        let last : IsClean g (stands g scope (want_of_kind k) o ∷ []) =
        (clean_parts g (operand_sites g scope Elsewhere o) (stands g scope (want_of_kind k) o ∷ []) halves.0).1 in
        let one : arg_typed (shapes g V D) V D v (arg_of k (meaning_of_operand g scope o)) ≡ true =
        arg_good k v (meaning_of_operand g scope o) refs.0 (operand_good g V D n globals scope blocks o)
        (no_other g (want_of_kind k) (place_of_operand o) (meaning_of_operand g scope o)
        (clean_first g (stands g scope (want_of_kind k) o) [] last).0) in
        ap (λ b. b && args_typed (shapes g V D) V D vs (args_of g scope ks os)) one
        ∙ args_good ks vs os refs.1 (omega (arith, long)) halves.1

    module _ (F : List Func) (H : Option ℕ) (funcs : GoodFuncs g.functions F) where
      -- a call of a function that is there
      pub calling_typed : (x : Text) (f : ℕ) → called_number g x ≡ Some f → (os : List Operand) (to : Option Dest)
          (line : ℕ) (spot : Spot) → is_counted (called g x) os ≡ true
          → IsClean g (arguments_sites g scope (params_in (called g x)) os)
          → ((d : FunctionDef) (v : Option VarRef) → called g x ≡ Some d → GoodResult d.result v
          → to_typed (shapes g V D) V D v to ≡ true)
          → stmt_typed (shapes g V D) V D F H
          (Calling f (args_of g scope (params_in (function_at g (Some f))) os) to line) spot ≡ true
      calling_typed x f is os to line spot counted clean result =
          let below : f < length g.functions =
          subst (OfOption (λ k. k < length g.functions)) is (called_below g x) in
          let there : There g.functions F f = func_there g.functions F f funcs below in
          let d : FunctionDef = there.0 in
          let fn : Func = there.1.0 in
          let one : called g x ≡ Some d = ap (function_at g) is ∙ there.1.1.0.0 in
          let ks : params_in (called g x) ≡ d.params = ap params_in one in
          let count : nat_eq (length d.params) (length os) ≡ true =
          subst (λ o. is_counted o os ≡ true) one counted in
          let args : args_typed (shapes g V D) V D fn.params (args_of g scope d.params os) ≡ true =
          args_good d.params fn.params os there.1.1.1.0 (eqb-true (length d.params) (length os) count)
          (subst (λ ps. IsClean g (arguments_sites g scope ps os)) ks clean) in
          let end : to_typed (shapes g V D) V D fn.result to ≡ true =
          result d fn.result one there.1.1.1.1 in
          typed-Call (shapes g V D) V D F H f (args_of g scope (params_in (function_at g (Some f))) os) to line spot
          ∙ ap (λ o. call_typed (shapes g V D) V D o
          (args_of g scope (params_in (function_at g (Some f))) os) to) there.1.1.0.1
          ∙ ap (λ o. args_typed (shapes g V D) V D fn.params (args_of g scope (params_in o) os)
          && to_typed (shapes g V D) V D fn.result to) there.1.1.0.0
          ∙ ap (λ b. b && to_typed (shapes g V D) V D fn.result to) args ∙ end

    -- What is returned

    value_good : (k : Option Kind) (v : Option VarRef) (o : Option Operand) → GoodResult k v
        → cond (is_some o) (is_some k) (not (is_some k)) ≡ true
        → IsClean g (maybe_sites (wanted_sites g scope Elsewhere (want_of_result k)) o)
        → value_typed (shapes g V D) V D v (returned_value g scope k o) ≡ true
    value_good None None o good there c = refl
    value_good None (Some v) o good there c = absurd good
    value_good (Some k) None o good there c = absurd good
    value_good (Some k) (Some v) None good there c = absurd (true≢false (sym there))
    value_good (Some k) (Some v) (Some o) good there c =
        let last : IsClean g (stands g scope (want_of_kind k) o ∷ []) =
        (clean_parts g (operand_sites g scope Elsewhere o) (stands g scope (want_of_kind k) o ∷ []) c).1 in
        arg_good k v (meaning_of_operand g scope o) good (operand_good g V D n globals scope blocks o)
        (no_other g (want_of_kind k) (place_of_operand o) (meaning_of_operand g scope o)
        (clean_first g (stands g scope (want_of_kind k) o) [] last).0)

    may : (f : ℕ) (o : Option Operand) → may_return g (Some f) (is_some o)
        ≡ cond (is_some o) (is_some (result_at g f)) (not (is_some (result_at g f)))
    may f None = refl
    may f (Some o) = refl

    returned_typed : (F : List Func) (o : Option Operand) (spot : Spot)
        → act_typed (shapes g V D) V D F None (act.Return (returned_operand g scope o)) spot ≡ true
    returned_typed F None spot = refl
    returned_typed F (Some o) spot =
        returned_good g V D F (meaning_of_operand g scope o) spot (operand_good g V D n globals scope blocks o)

    -- a `return` in the function of this number, or in `main`
    pub return_typed : (F : List Func) → GoodFuncs g.functions F → (home : Option ℕ)
        → OfOption (λ f. f < length g.functions) home → (o : Option Operand) (spot : Spot)
        → may_return g home (is_some o) ≡ true
        → IsClean g (maybe_sites (wanted_sites g scope Elsewhere (want_of_return g home)) o)
        → act_typed (shapes g V D) V D F home (return_act g scope home o) spot ≡ true
    return_typed F funcs None below o spot there clean = returned_typed F o spot
    return_typed F funcs (Some f) below o spot there clean =
        let is : There g.functions F f = func_there g.functions F f funcs below in
        let fn : Func = is.1.0 in
        let result : result_at g f ≡ is.0.result = ap maybe_result is.1.1.0.0 in
        let value : value_typed (shapes g V D) V D fn.result (returned_value g scope (result_at g f) o) ≡ true =
        value_good (result_at g f) fn.result o
        (subst (λ k. GoodResult k fn.result) (sym result) is.1.1.1.1) (sym (may f o) ∙ there) clean in
        ap (λ b. b && returns_typed (shapes g V D) V D (slice_get F f) (returned_value g scope (result_at g f) o))
        (eq-eqb f f refl)
        ∙ ap (λ x. returns_typed (shapes g V D) V D x (returned_value g scope (result_at g f) o)) is.1.1.0.1 ∙ value
