use Rattle.std.proofs.Common.{refl, sym, ◌∙◌}
use Rattle.c_grammar.specs.words.Faults.Fails.{no_memory}
use Rattle.c_grammar.specs.words.Sets.{arrows, no_sign}
use Rattle.c_reader.specs.Bounds.{Stops}
use Rattle.c_grammar.specs.words.Shapes.{some_arrows}
use Rattle.c_grammar.proofs.Goods.{good_arrow}
use Rattle.c_grammar.proofs.Lists.{lists, leads_more, leads_end, leads_stuck, leads_as}
use Rattle.c_grammar.proofs.Steps.{passed, widen_takes, widen_fails}
use Rattle.c_operands.proofs.paths.arrows.Goals as goal

pub returns-in_err-one-clause-err : goal.returns-in_err-one-clause-err
returns-in_err-one-clause-err c =
    passed c.from_residual.result (Stops some_arrows c.args.bounds.now c.args.left.now) c.from_residual.ensures.1
    (widen_fails _ _ _ refl refl refl
    (leads_stuck good_arrow (lists arrows no_sign no_sign no_sign refl refl refl refl refl) c.arrows.invariant
    (sym c.is_next.ensures ∙ c.arrows-test.true) _ c.in_err-one.ensures.err))

pub returns-in_err-push-clause-err : goal.returns-in_err-push-clause-err
returns-in_err-push-clause-err c =
    passed c.from_residual-in_err-push.result (Stops some_arrows c.args.bounds.now c.args.left.now)
    c.from_residual-in_err-push.ensures.1 no_memory

pub arrows-preserved : goal.arrows-preserved
arrows-preserved c =
    leads_as c.in_ok-push.ensures.ok
    (leads_more good_arrow (lists arrows no_sign no_sign no_sign refl refl refl refl refl) c.arrows.invariant _ _
    (sym c.is_next.ensures ∙ c.arrows-test.true) c.in_ok-one.ensures.ok)

pub returns-clause-ok : goal.returns-clause-ok
returns-clause-ok c =
    widen_takes _ _ refl refl
    (leads_end good_arrow (lists arrows no_sign no_sign no_sign refl refl refl refl refl) c.arrows.invariant
    (sym c.is_next.ensures ∙ c.arrows-test.false))
