use Rattle.std.proofs.Common.{◌≡◌, ◌+◌, ◌||◌, Bool, true, false, List, drop, refl, sym, ap, ◌∙◌}
use Rattle.std.proofs.Math.Bool.{or-false, or_assoc}
use Rattle.std.proofs.lemmas.List.{at_drop_all}
use Rattle.c_ast.specs.declared.items.Item.{Item}
use Rattle.c_typing.specs.Scopes.{past_item}
use Rattle.c_check.specs.inner.Items.{any_main, is_main_item, kept_after, kept_item_sites, kept_items_sites}
use Rattle.c_expressions.specs.Meeting.{met}
use Rattle.c_making.proofs.MakingLemmas.{turn}
use Rattle.c_expressions.proofs.MeetingLemmas.{met-append, met-nil}
use Rattle.c_check.proofs.items.items_in_order.Goals as goal

pub loop-item-preserved : goal.loop-item-preserved
loop-item-preserved c =
    let g = c.args.tables.now in
    let found = c.loop-item.found in
    let seen = c.loop-item.seen in
    let main = c.loop-item.main in
    let scope = c.loop-item.scope in
    let item = c.item-item.result in
    let i = c.loop-item.item-index in
    let items = c.args.items.now in
    let rest : List Item = drop (i + 1) items in
    record {
      blocks = c.in_ok-main.ensures.blocks;
      found = rw (
        c.in_ok-main.ensures.seen,
        c.in_ok-main.ensures.past,
        c.in_ok-main.ensures.found,
      )
          (sym
          (met-append g found (kept_item_sites g seen item scope)
          (kept_items_sites g (kept_after seen item) rest (past_item g item scope)))
          ∙ turn (λ (is : List Item). met g found (kept_items_sites g seen is scope)) items i item
          c.loop-item-test.true c.item-item.is
          ∙ c.loop-item.invariant.found);
      main = ap (λ b. b || any_main rest) c.in_ok-main.ensures.main
          ∙ or_assoc main (is_main_item item) (any_main rest)
          ∙ turn (λ (is : List Item). main || any_main is) items i item c.loop-item-test.true c.item-item.is
          ∙ c.loop-item.invariant.main;
    }

pub returns-clause-found : goal.returns-clause-found
returns-clause-found c =
    let g = c.args.tables.now in
    sym
    (at_drop_all (λ (is : List Item).
    met g c.loop-item.found (kept_items_sites g c.loop-item.seen is c.loop-item.scope))
    c.args.items.now c.loop-item.item-index c.loop-item-test.false
    ∙ met-nil g c.loop-item.found)
    ∙ c.loop-item.invariant.found

pub returns-clause-main : goal.returns-clause-main
returns-clause-main c =
    sym
    (at_drop_all (λ (is : List Item). c.loop-item.main || any_main is) c.args.items.now c.loop-item.item-index
    c.loop-item-test.false
    ∙ or-false c.loop-item.main)
    ∙ c.loop-item.invariant.main
