-- Scopes at the head of a function.
use Rattle.std.proofs.Common.{◌≡◌, ◌∷◌, ◌++◌, [], List, Option, Some, None, codes, refl, ap, ◌∙◌}
use Rattle.c_ast.specs.declared.items.Head.{Head}
use Rattle.c_ast.specs.declared.items.Param.{Param}
use Rattle.c_typing.specs.Globals.{Globals, param_kind, params_of, struct_names}
use Rattle.c_typing.specs.Scopes.{Scope, Var, begun, declared, opened, param_name, past_head, past_params, past_result}
use Rattle.c_typing.specs.Scopes.{outer, result_declared, result_of, with_var}
use Rattle.c_typing.specs.Texts.{Text}
use Rattle.c_typing.proofs.OwnScopes.{outer-declared}
use Rattle.c_typing.specs.declared.meaning.Kind.{Kind}
use Rattle.c_typing.specs.declared.meaning.Kind.TheVariants.{Points, Datum}

with_none : (v : Var) (bs : List (List Var)) → bs ≡ [] → with_var v bs ≡ []
with_none v bs e = ap (with_var v) e

-- where no block is open, a declaration opens none
pub shut-declared : (scope : Scope) (x : Text) (k : Kind) → scope.blocks ≡ [] → (declared scope x k).blocks ≡ []
shut-declared scope x (Points to) e = with_none _ scope.blocks e
shut-declared scope x Datum e = with_none _ scope.blocks e

pub shut-past_result : (g : Globals) (h : Head) (scope : Scope) → (past_result g h scope).blocks ≡ []
shut-past_result g h scope = by (result_of g h)
  where
    by : (k : Option Kind) → (result_declared k h.name.text (begun g h scope)).blocks ≡ []
    by None = refl
    by (Some k) = shut-declared (begun g h scope) (h.name.text ++ codes "()") k refl

outer-past_params : (g : Globals) (ps : List Param) (scope : Scope) → outer (past_params g ps scope).blocks
    ≡ outer scope.blocks
outer-past_params g [] scope = refl
outer-past_params g (p ∷ ps) scope =
    outer-past_params g ps (declared scope (param_name p).text (param_kind (struct_names g) p))
    ∙ outer-declared scope (param_name p).text (param_kind (struct_names g) p)

-- no block is open round that of the parameters
pub outer-past_head : (g : Globals) (h : Head) (scope : Scope) → outer (past_head g h scope).blocks ≡ []
outer-past_head g h scope = outer-past_params g (params_of h.params) (opened (past_result g h scope))
    ∙ shut-past_result g h scope
