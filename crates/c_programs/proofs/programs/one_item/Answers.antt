use Rattle.std.proofs.Common.{◌∷◌, ◌++◌, sym, ap, ◌∙◌}
use Rattle.c_ast.specs.declared.items.Item.{Item}
use Rattle.c_ast.specs.declared.items.Item.TheVariants as item
use Rattle.c_typing.specs.Globals.{is_main}
use Rattle.c_typing.specs.Programs.{func_of, funcs_in, main_in}
use Rattle.c_typing.specs.Scopes.{past_item}
use Rattle.c_programs.specs.inner.Making.{or_body, with_func, with_main}
use Rattle.c_programs.proofs.ProgramLemmas.{func_step, main_step}
use Rattle.c_programs.proofs.programs.one_item.Goals as goal

pub returns-in_ok-function_item-in-Function-clause-funcs : goal.returns-in_ok-function_item-in-Function-clause-funcs
returns-in_ok-function_item-in-Function-clause-funcs c = λ rest.
    let g = c.args.tables.now in
    let scope = c.args.scope.now in
    let funcs = c.args.made.now.funcs in
    let head = c.in-Function.head in
    let func = func_of g head c.in-Function.body scope in
    ap (λ fs. fs ++ funcs_in g rest c.function_item.new.scope) c.in_ok-function_item-in-Function.ensures.funcs
    ∙ ap (λ s. with_func (is_main head) funcs func ++ funcs_in g rest s) c.in_ok-function_item-in-Function.ensures.past
    ∙ func_step (is_main head) funcs func (funcs_in g rest (past_item g (item.Function head c.in-Function.body) scope))
    ∙ ap (λ (i : Item). funcs ++ funcs_in g (i ∷ rest) scope) (sym c.in-Function.is)

pub returns-in_ok-function_item-in-Function-clause-body : goal.returns-in_ok-function_item-in-Function-clause-body
returns-in_ok-function_item-in-Function-clause-body c = λ rest.
    let g = c.args.tables.now in
    let scope = c.args.scope.now in
    let body = c.args.made.now.body in
    let head = c.in-Function.head in
    let func = func_of g head c.in-Function.body scope in
    let made = c.in_ok-function_item-in-Function in
    ap (λ b. or_body b (main_in g rest c.function_item.new.scope)) made.ensures.body
    ∙ ap (λ s. or_body (with_main (is_main head) body func) (main_in g rest s)) made.ensures.past
    ∙ main_step (is_main head) body func (main_in g rest (past_item g (item.Function head c.in-Function.body) scope))
    ∙ ap (λ (i : Item). or_body body (main_in g (i ∷ rest) scope)) (sym c.in-Function.is)
