-- Where nothing is broken, the heads of functions declare variables of their kinds.
use Rattle.std.proofs.Common.{◌≡◌, ◌<◌, ℕ, Bool, true, false, cond, List, [], ◌∷◌, ◌++◌, length, map, codes, Option}
use Rattle.std.proofs.Common.{Some}
use Rattle.std.proofs.Common.{None, refl, sym, ap, ◌∙◌, subst}
use Rattle.std.proofs.lemmas.List.{length-map}
use Rattle.c_ast.specs.declared.items.Head.{Head}
use Rattle.c_ast.specs.declared.items.Item.{Item}
use Rattle.c_ast.specs.declared.items.Item.TheVariants as item
use Rattle.c_ast.specs.declared.items.Param.{Param}
use Rattle.c_ast.specs.declared.items.Param.TheVariants as param
use Rattle.c_ast.specs.declared.items.ReturnType.{ReturnType}
use Rattle.c_ast.specs.declared.items.ReturnType.TheVariants as gives
use Rattle.c_types.specs.Program.{vars_typed}
use Rattle.c_types.specs.declared.program.VarDef.{VarDef}
use Rattle.c_typing.specs.Globals.{Globals, function_name, function_number, is_main, param_kind, params_of, result_kind}
use Rattle.c_typing.specs.Globals.{struct_names}
use Rattle.c_typing.specs.ItemSites.{gives_sites, own_param_sites, own_params_sites, param_sites}
use Rattle.c_typing.specs.Programs.{param_refs, result_ref}
use Rattle.c_typing.specs.Scopes.{Scope, begun, declared, declared_so_far, innermost, next_ref, opened, param_name}
use Rattle.c_typing.specs.Scopes.{past_head, past_item, past_items, past_params, past_result, result_declared}
use Rattle.c_typing.specs.Scopes.{result_of, var_name, with_var}
use Rattle.c_typing.specs.Sites as site
use Rattle.c_typing.specs.Texts.{Text}
use Rattle.c_typing.specs.declared.meaning.Kind.{Kind}
use Rattle.c_typing.specs.declared.meaning.Kind.TheVariants.{Points, Datum}
use Rattle.c_typing.proofs.Clean.{IsClean, clean_first, clean_parts, struct_there}
use Rattle.c_typing.proofs.ScopeLaws.{Within, back_declared, block_keeps, declared_good, declared_vars, home-declared}
use Rattle.c_typing.proofs.ScopeLaws.{next_good}
use Rattle.c_typing.proofs.Sound.{GoodBlocks, GoodKind, number_below}
use Rattle.c_typing.proofs.SoundCalls.{GoodRef, GoodRefs, GoodResult}
use Rattle.c_typing.proofs.SoundStmts.{struct_kind}
use Rattle.c_typing.proofs.Trees.{OfOption}

-- the function around is one of the file's, or `main`
pub home_below : (g : Globals) (x : Text) → OfOption (λ f. f < length g.functions) (function_number g x)
home_below g x = subst (λ n. OfOption (λ f. f < n) (function_number g x)) (length-map g.functions function_name)
    (number_below x (map function_name g.functions))

params_home : (g : Globals) (ps : List Param) (scope : Scope) → (past_params g ps scope).home ≡ scope.home
params_home g [] scope = refl
params_home g (p ∷ ps) scope =
    params_home g ps (declared scope (param_name p).text (param_kind (struct_names g) p))
    ∙ home-declared scope (param_name p).text (param_kind (struct_names g) p)

result_home : (k : Option Kind) (x : Text) (scope : Scope) → (result_declared k x scope).home ≡ scope.home
result_home None x scope = refl
result_home (Some k) x scope = home-declared scope (x ++ codes "()") k

pub head_home : (g : Globals) (h : Head) (scope : Scope) → (past_head g h scope).home ≡ function_number g h.name.text
head_home g h scope = params_home g (params_of h.params) (opened (past_result g h scope))
    ∙ result_home (result_of g h) h.name.text (begun g h scope)

-- no block is open where a result is declared
pub result_blocks : (k : Option Kind) (x : Text) (scope : Scope) → scope.blocks ≡ []
    → (result_declared k x scope).blocks ≡ []
result_blocks None x scope none = none
result_blocks (Some (Points to)) x scope none =
    ap (with_var (record { name = x ++ codes "()"; kind = Points to; number = length scope.vars })) none
result_blocks (Some Datum) x scope none =
    ap (with_var (record { name = x ++ codes "()"; kind = Datum; number = length scope.data_vars })) none

module _ (g : Globals) (V : List VarDef) (D : ℕ) where
  -- What is declared behind a place holds what is declared before it.

  back_params : (ps : List Param) (scope : Scope) → Within g V D (past_params g ps scope) → Within g V D scope
  back_params [] scope w = w
  back_params (p ∷ ps) scope w =
      back_declared g V D scope (param_name p).text (param_kind (struct_names g) p)
      (back_params ps (declared scope (param_name p).text (param_kind (struct_names g) p)) w)

  back_result : (k : Option Kind) (x : Text) (scope : Scope) → Within g V D (result_declared k x scope)
      → Within g V D scope
  back_result None x scope w = w
  back_result (Some k) x scope w = back_declared g V D scope (x ++ codes "()") k w

  back_head : (h : Head) (scope : Scope) → Within g V D (past_head g h scope) → Within g V D (past_result g h scope)
  back_head h scope w = back_params (params_of h.params) (opened (past_result g h scope)) w

  pub back_item : (i : Item) (scope : Scope) → Within g V D (past_item g i scope) → Within g V D scope
  back_item (item.Function h b) scope w =
      back_result (result_of g h) h.name.text (begun g h scope)
      (back_head h scope ((block_keeps g V D b (past_head g h scope)).1.0 w))
  back_item _ scope w = w

  pub back_items : (is : List Item) (scope : Scope) → Within g V D (past_items g is scope) → Within g V D scope
  back_items [] scope w = w
  back_items (i ∷ is) scope w = back_item i scope (back_items is (past_item g i scope) w)

  module _ (n : ℕ) (size : length g.structs ≡ n) where
    param_good : (p : Param) → IsClean g (param_sites p) → GoodKind n (param_kind (struct_names g) p)
    param_good (param.Pointer at shape name) c =
        struct_kind g n shape.text size (struct_there g shape (clean_first g (site.UsesStruct shape) [] c).0)
    param_good (param.Datum base name) c = tt

    ref_good : (k : Kind) (scope : Scope) (x : Text) → GoodKind n k → Within g V D (declared scope x k)
        → GoodRef g V D k (next_ref k scope)
    ref_good (Points None) scope x good w = absurd good
    ref_good (Points (Some s)) scope x good w = next_good g V D n scope x (Points (Some s)) good w
    ref_good Datum scope x good w = next_good g V D n scope x Datum good w

    -- the kind of one parameter, and what is known of the others
    first_param : (p : Param) (ps : List Param) (scope : Scope) → IsClean g (own_params_sites g (p ∷ ps) scope)
        → GoodKind n (param_kind (struct_names g) p)
        × IsClean g (own_params_sites g ps (declared scope (param_name p).text (param_kind (struct_names g) p)))
    first_param p ps scope c =
        let halves : IsClean g (own_param_sites g p scope)
        × IsClean g (own_params_sites g ps (declared scope (param_name p).text (param_kind (struct_names g) p))) =
        clean_parts g (own_param_sites g p scope)
        (own_params_sites g ps (declared scope (param_name p).text (param_kind (struct_names g) p))) c in (
          param_good p (clean_parts g (param_sites p)
              (site.Defines site.Variable (param_name p) (map var_name (innermost scope.blocks))
              (declared_so_far scope) ∷ []) halves.0).0,
          halves.1,
        )

    params_refs : (ps : List Param) (scope : Scope) → Within g V D (past_params g ps scope)
        → IsClean g (own_params_sites g ps scope)
        → GoodRefs g V D (map (param_kind (struct_names g)) ps) (param_refs g ps scope)
    params_refs [] scope w c = tt
    params_refs (p ∷ ps) scope w c =
        let x : Text = (param_name p).text in
        let k : Kind = param_kind (struct_names g) p in
        let one : GoodKind n k × IsClean g (own_params_sites g ps (declared scope x k)) = first_param p ps scope c in
        (ref_good k scope x one.0 (back_params ps (declared scope x k) w), params_refs ps (declared scope x k) w one.1)

    params_ready : (ps : List Param) (scope : Scope) → Within g V D (past_params g ps scope)
        → GoodBlocks g V D scope.blocks → vars_typed n scope.vars ≡ true → IsClean g (own_params_sites g ps scope)
        → GoodBlocks g V D (past_params g ps scope).blocks × (vars_typed n (past_params g ps scope).vars ≡ true)
    params_ready [] scope w blocks vars c = (blocks, vars)
    params_ready (p ∷ ps) scope w blocks vars c =
        let x : Text = (param_name p).text in
        let k : Kind = param_kind (struct_names g) p in
        let one : GoodKind n k × IsClean g (own_params_sites g ps (declared scope x k)) = first_param p ps scope c in
        params_ready ps (declared scope x k) w
        (declared_good g V D n scope x k one.0 (back_params ps (declared scope x k) w) blocks)
        (declared_vars g V D n scope x k one.0 vars) one.1

    kind_of_result : (r : ReturnType) → IsClean g (gives_sites r)
        → OfOption (GoodKind n) (result_kind (struct_names g) r)
    kind_of_result (gives.Void at) c = tt
    kind_of_result (gives.Data d) c = tt
    kind_of_result (gives.Pointer at name) c =
        struct_kind g n name.text size (struct_there g name (clean_first g (site.UsesStruct name) [] c).0)

    result_good : (h : Head) → IsClean g (gives_sites h.gives) → OfOption (GoodKind n) (result_of g h)
    result_good h c = either (is_main h)
      where
        either : (b : Bool) → OfOption (GoodKind n) (cond b None (result_kind (struct_names g) h.gives))
        either true = tt
        either false = kind_of_result h.gives c

    result_refs : (k : Option Kind) (x : Text) (scope : Scope) → OfOption (GoodKind n) k
        → Within g V D (result_declared k x scope) → GoodResult g V D k (result_ref k scope)
    result_refs None x scope good w = tt
    result_refs (Some k) x scope good w = ref_good k scope (x ++ codes "()") good w

    result_vars : (k : Option Kind) (x : Text) (scope : Scope) → OfOption (GoodKind n) k
        → vars_typed n scope.vars ≡ true → vars_typed n (result_declared k x scope).vars ≡ true
    result_vars None x scope good vars = vars
    result_vars (Some k) x scope good vars = declared_vars g V D n scope (x ++ codes "()") k good vars

    -- the parameters and the result of a function
    pub head_refs : (h : Head) (scope : Scope) → Within g V D (past_head g h scope) → IsClean g (gives_sites h.gives)
        → IsClean g (own_params_sites g (params_of h.params) (opened (past_result g h scope)))
        → GoodRefs g V D (map (param_kind (struct_names g)) (params_of h.params))
        (param_refs g (params_of h.params) (opened (past_result g h scope)))
        × GoodResult g V D (result_of g h) (result_ref (result_of g h) (begun g h scope))
    head_refs h scope w c d = (
      params_refs (params_of h.params) (opened (past_result g h scope)) w d,
      result_refs (result_of g h) h.name.text (begun g h scope) (result_good h c) (back_head h scope w),
    )

    -- what is known where the body begins
    pub head_ready : (h : Head) (scope : Scope) → Within g V D (past_head g h scope) → vars_typed n scope.vars ≡ true
        → IsClean g (gives_sites h.gives)
        → IsClean g (own_params_sites g (params_of h.params) (opened (past_result g h scope)))
        → GoodBlocks g V D (past_head g h scope).blocks × (vars_typed n (past_head g h scope).vars ≡ true)
    head_ready h scope w vars c d =
        params_ready (params_of h.params) (opened (past_result g h scope)) w
        (subst (λ bs. GoodBlocks g V D ([] ∷ bs))
        (sym (result_blocks (result_of g h) h.name.text (begun g h scope) refl)) tt)
        (result_vars (result_of g h) h.name.text (begun g h scope) (result_good h c) vars) d
