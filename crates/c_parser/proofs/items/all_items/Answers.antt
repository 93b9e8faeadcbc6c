use Rattle.std.proofs.Common.{refl, sym, ap, ◌∙◌}
use Rattle.c_grammar.specs.words.Faults.Fails.{no_memory}
use Rattle.c_grammar.specs.words.Parted.{begins_item}
use Rattle.c_grammar.specs.words.Sets.{no_sign, elses}
use Rattle.c_reader.specs.Bounds.{Stops}
use Rattle.c_parser.specs.inner.Shapes.{read_all_items, read_item}
use Rattle.c_grammar.proofs.ItemForms.{good_item}
use Rattle.c_grammar.proofs.Lists.{lists, leads_none, leads_more, leads_end, leads_stuck, leads_as}
use Rattle.c_grammar.proofs.Steps.{passed, widen_takes, widen_fails}
use Rattle.c_parser.proofs.items.all_items.Goals as goal

pub returns-in_err-one-clause-err : goal.returns-in_err-one-clause-err
returns-in_err-one-clause-err c =
    passed c.from_residual.result (Stops read_all_items c.args.bounds.now c.args.left.now) c.from_residual.ensures.1
    (widen_fails _ _ _ refl refl refl
    (leads_stuck good_item (lists begins_item no_sign elses no_sign refl refl refl refl refl) c.items.invariant
    (sym (ap (λ s. begins_item s) c.peek.ensures) ∙ sym c.begins_item.ensures ∙ c.items-test.true) _
    c.in_err-one.ensures.err))

pub returns-in_err-push-clause-err : goal.returns-in_err-push-clause-err
returns-in_err-push-clause-err c =
    passed c.from_residual-in_err-push.result (Stops read_all_items c.args.bounds.now c.args.left.now)
    c.from_residual-in_err-push.ensures.1 no_memory

pub items-init : goal.items-init
items-init c = leads_as c.new-all.ensures (leads_none read_item.rule begins_item no_sign elses no_sign _ _ _)

pub items-preserved : goal.items-preserved
items-preserved c = leads_as c.in_ok-push.ensures.ok
    (leads_more good_item (lists begins_item no_sign elses no_sign refl refl refl refl refl) c.items.invariant _ _
    (sym (ap (λ s. begins_item s) c.peek.ensures) ∙ sym c.begins_item.ensures ∙ c.items-test.true)
    c.in_ok-one.ensures.ok)

pub returns-clause-ok : goal.returns-clause-ok
returns-clause-ok c = widen_takes _ _ refl refl
    (leads_end good_item (lists begins_item no_sign elses no_sign refl refl refl refl refl) c.items.invariant
    (sym (ap (λ s. begins_item s) c.peek.ensures) ∙ sym c.begins_item.ensures ∙ c.items-test.false))
