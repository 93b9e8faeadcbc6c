-- The variables of all functions are declared once.
use Rattle.std.proofs.Common.{◌≡◌, ◌≤◌, ◌+◌, Bool, true, false, cond, List, [], ◌∷◌, ◌++◌, codes, Option, Some, None}
use Rattle.std.proofs.Common.{refl, ap, arith}
use Rattle.c_ast.specs.declared.items.Head.{Head}
use Rattle.c_ast.specs.declared.items.Item.{Item}
use Rattle.c_ast.specs.declared.items.Item.TheVariants as item
use Rattle.c_ast.specs.declared.items.Param.{Param}
use Rattle.c_ast.specs.declared.statements.Block.{Block}
use Rattle.c_types.specs.Bodies.{body_declares, func_vars, own_vars, result_var}
use Rattle.c_types.specs.declared.program.Func.{Func}
use Rattle.c_types.specs.declared.program.VarRef.{VarRef}
use Rattle.c_typing.specs.Globals.{Globals, is_main, param_kind, params_of, struct_names}
use Rattle.c_typing.specs.Programs.{body_stmts, func_of, funcs_in, param_refs, result_ref}
use Rattle.c_typing.specs.Scopes.{Scope, begun, declared, opened, param_name, past_head, past_item, past_items}
use Rattle.c_typing.specs.Scopes.{past_params, past_result, result_declared, result_of}
use Rattle.c_typing.specs.Texts.{Text}
use Rattle.c_typing.specs.declared.meaning.Kind.{Kind}
use Rattle.c_typing.proofs.OwnVariables.{below, block_counted, count, count-append, next_counted, total-body}

module _ (g : Globals) where
  -- the parameters and local variables of a function
  abbrev pub own_list : Head → Block → Scope → List VarRef
  own_list h b scope = param_refs g (params_of h.params) (opened (past_result g h scope))
      ++ body_declares (body_stmts g h b scope)

  -- those of the first `main`
  abbrev pub main_vars : List Item → Scope → List VarRef
  main_vars [] scope = []
  main_vars (item.Struct at name fields ∷ is) scope = main_vars is scope
  main_vars (item.Enum at name values ∷ is) scope = main_vars is scope
  main_vars (item.Proto outer head ∷ is) scope = main_vars is scope
  main_vars (item.Function h b ∷ is) scope =
      cond (is_main h) (own_list h b scope) (main_vars is (past_item g (item.Function h b) scope))
  main_vars (item.Declare d ∷ is) scope = main_vars is scope

  module _ (v : VarRef) where
    params_counted : (ps : List Param) (scope : Scope) → count v (param_refs g ps scope) + below v scope
        ≤ below v (past_params g ps scope)
    params_counted [] scope = omega (arith)
    params_counted (p ∷ ps) scope = omega (
      arith,
      next_counted v (param_kind (struct_names g) p) scope (param_name p).text,
      params_counted ps (declared scope (param_name p).text (param_kind (struct_names g) p)),
    )

    abbrev listed : Option VarRef → List VarRef
    listed None = []
    listed (Some w) = w ∷ []

    result_counted : (k : Option Kind) (x : Text) (scope : Scope) → count v (listed (result_ref k scope))
        + below v scope ≤ below v (result_declared k x scope)
    result_counted None x scope = omega (arith)
    result_counted (Some k) x scope = omega (arith, next_counted v k scope (x ++ codes "()"))

    own_counted : (h : Head) (b : Block) (scope : Scope) → count v (own_list h b scope)
        + below v (past_result g h scope) ≤ below v (past_item g (item.Function h b) scope)
    own_counted h b scope = omega (
      arith,
      count-append v (param_refs g (params_of h.params) (opened (past_result g h scope)))
          (body_declares (body_stmts g h b scope)),
      params_counted (params_of h.params) (opened (past_result g h scope)),
      total-body v (body_stmts g h b scope),
      block_counted v g b (past_head g h scope),
    )

    same_listed : (r : Option VarRef) (f : Func) → f.result ≡ r → count v (result_var f) ≡ count v (listed r)
    same_listed None f is = ap (λ o. count v (listed o)) is
    same_listed (Some w) f is = ap (λ o. count v (listed o)) is

    func_counted : (h : Head) (b : Block) (scope : Scope)
        → count v (result_var (func_of g h b scope) ++ own_vars (func_of g h b scope)) + below v scope
        ≤ below v (past_item g (item.Function h b) scope)
    func_counted h b scope = omega (
      arith,
      count-append v (result_var (func_of g h b scope)) (own_vars (func_of g h b scope)),
      same_listed (result_ref (result_of g h) (begun g h scope)) (func_of g h b scope) refl,
      result_counted (result_of g h) h.name.text (begun g h scope),
      own_counted h b scope,
    )

    -- after a result no fewer variables are declared
    result_kept : (h : Head) (scope : Scope) → below v scope ≤ below v (past_result g h scope)
    result_kept h scope = omega (arith, result_counted (result_of g h) h.name.text (begun g h scope))

    pub items_counted : (is : List Item) (scope : Scope) → (count v (func_vars (funcs_in g is scope))
        + count v (main_vars is scope)) + below v scope ≤ below v (past_items g is scope)
    items_counted [] scope = omega (arith)
    items_counted (item.Struct at name fields ∷ is) scope = items_counted is scope
    items_counted (item.Enum at name values ∷ is) scope = items_counted is scope
    items_counted (item.Proto outer head ∷ is) scope = items_counted is scope
    items_counted (item.Declare d ∷ is) scope = items_counted is scope
    items_counted (item.Function h b ∷ is) scope =
        either (items_counted is (past_item g (item.Function h b) scope)) (is_main h)
      where
        after : Scope
        after = past_item g (item.Function h b) scope

        either : (count v (func_vars (funcs_in g is after)) + count v (main_vars is after)) + below v after
            ≤ below v (past_items g is after)
            → (k : Bool) → (count v (func_vars (cond k [] (func_of g h b scope ∷ []) ++ funcs_in g is after))
            + count v (cond k (own_list h b scope) (main_vars is after))) + below v scope
            ≤ below v (past_items g is after)
        either rest true = omega (arith, rest, own_counted h b scope, result_kept h scope)
        either rest false = omega (
          arith,
          rest,
          count-append v (result_var (func_of g h b scope) ++ own_vars (func_of g h b scope))
              (func_vars (funcs_in g is after)),
          func_counted h b scope,
        )
