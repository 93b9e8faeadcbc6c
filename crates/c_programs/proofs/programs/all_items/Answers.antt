use Rattle.std.proofs.Common.{◌+◌, ◌++◌, List, [], ◌∷◌, drop, refl, sym, ap, ◌∙◌, ◌≡◌}
use Rattle.std.proofs.lemmas.List.{at_drop_all}
use Rattle.c_ast.specs.declared.items.Item.{Item}
use Rattle.c_types.specs.declared.program.Func.{Func}
use Rattle.c_typing.specs.Programs.{funcs_in, main_in}
use Rattle.c_typing.specs.Scopes.{past_items}
use Rattle.c_programs.specs.inner.Making.{or_body}
use Rattle.c_making.proofs.MakingLemmas.{turn}
use Rattle.c_programs.proofs.programs.all_items.Goals as goal

pub loop-item-preserved : goal.loop-item-preserved
loop-item-preserved c =
    let g = c.args.tables.now in
    let scope = c.loop-item.scope in
    let item = c.item-item.result in
    let i = c.loop-item.item-index in
    let items = c.args.items.now in
    let rest : List Item = drop (i + 1) items in
    record {
      blocks = c.in_ok-one_item.ensures.blocks;
      past = ap (past_items g rest) c.in_ok-one_item.ensures.past
          ∙ turn (λ (is : List Item). past_items g is scope) items i item c.loop-item-test.true c.item-item.is
          ∙ c.loop-item.invariant.past;
      funcs = c.in_ok-one_item.ensures.funcs rest
          ∙ turn (λ (is : List Item). c.loop-item.made.funcs ++ funcs_in g is scope) items i item
          c.loop-item-test.true c.item-item.is
          ∙ c.loop-item.invariant.funcs;
      body = c.in_ok-one_item.ensures.body rest
          ∙ turn (λ (is : List Item). or_body c.loop-item.made.body (main_in g is scope)) items i item
          c.loop-item-test.true c.item-item.is
          ∙ c.loop-item.invariant.body;
    }

append_none : (xs : List Func) → xs ++ [] ≡ xs
append_none [] = refl
append_none (x ∷ xs) = ap (λ (ys : List Func). x ∷ ys) (append_none xs)

pub returns-clause-past : goal.returns-clause-past
returns-clause-past c =
    let g = c.args.tables.now in
    sym
    (at_drop_all (λ (is : List Item). past_items g is c.loop-item.scope) c.args.items.now c.loop-item.item-index
    c.loop-item-test.false)
    ∙ c.loop-item.invariant.past

pub returns-clause-funcs : goal.returns-clause-funcs
returns-clause-funcs c =
    let g = c.args.tables.now in
    sym
    (at_drop_all (λ (is : List Item). c.loop-item.made.funcs ++ funcs_in g is c.loop-item.scope) c.args.items.now
    c.loop-item.item-index c.loop-item-test.false
    ∙ append_none c.loop-item.made.funcs)
    ∙ c.loop-item.invariant.funcs

pub returns-clause-body : goal.returns-clause-body
returns-clause-body c =
    let g = c.args.tables.now in
    sym
    (at_drop_all (λ (is : List Item). or_body c.loop-item.made.body (main_in g is c.loop-item.scope)) c.args.items.now
    c.loop-item.item-index c.loop-item-test.false)
    ∙ c.loop-item.invariant.body
