use Rattle.std.proofs.Common.{refl, sym, arith, ◌∙◌}
use Rattle.c_grammar.specs.words.Faults.Fails.{no_memory}
use Rattle.c_grammar.specs.words.Parted.{declarator_goes_on}
use Rattle.c_grammar.specs.words.Sets.{no_sign, commas}
use Rattle.c_reader.specs.Bounds.{Stops}
use Rattle.c_statements.specs.Shapes.{read_more_declarators, read_next_declarator}
use Rattle.c_grammar.proofs.Lists.{lists, leads_none, leads_more, leads_end, leads_stuck, leads_as}
use Rattle.c_grammar.proofs.Steps.{passed, widen_takes, widen_fails}
use Rattle.c_statements.proofs.Declarators.{good_next_declarator}
use Rattle.c_statements.proofs.declarations.more_declarators.Goals as goal

pub declarators-init : goal.declarators-init
declarators-init c = record {
  shorter = omega arith;
  leads =
      leads_as c.new-all.ensures
      (leads_none (read_next_declarator c.args.starred).rule commas declarator_goes_on no_sign no_sign _ _ _);
}

pub returns-in_err-next-clause-err : goal.returns-in_err-next-clause-err
returns-in_err-next-clause-err c =
    passed c.from_residual.result (Stops (read_more_declarators c.args.starred) c.args.bounds.now c.args.left.now)
    c.from_residual.ensures.1
    (widen_fails _ _ _ refl refl refl
    (leads_stuck (good_next_declarator c.args.starred)
    (lists commas declarator_goes_on no_sign no_sign refl refl refl refl refl) c.declarators.invariant.leads
    (sym c.is_next.ensures ∙ c.declarators-test.true) _ c.in_err-next.ensures.err))

pub returns-in_err-push-clause-err : goal.returns-in_err-push-clause-err
returns-in_err-push-clause-err c =
    passed c.from_residual-in_err-push.result (Stops (read_more_declarators c.args.starred) c.args.bounds.now
    c.args.left.now) c.from_residual-in_err-push.ensures.1 no_memory

pub declarators-preserved : goal.declarators-preserved
declarators-preserved c = record {
  shorter = omega (arith, c.declarators.invariant.shorter, c.in_ok-next.ensures.shorter);
  leads =
      leads_as c.in_ok-push.ensures.ok
      (leads_more (good_next_declarator c.args.starred)
      (lists commas declarator_goes_on no_sign no_sign refl refl refl refl refl) c.declarators.invariant.leads _ _
      (sym c.is_next.ensures ∙ c.declarators-test.true) c.in_ok-next.ensures.ok);
}

pub returns-clause-ok : goal.returns-clause-ok
returns-clause-ok c = widen_takes _ _ refl refl
    (leads_end (good_next_declarator c.args.starred)
    (lists commas declarator_goes_on no_sign no_sign refl refl refl refl refl) c.declarators.invariant.leads
    (sym c.is_next.ensures ∙ c.declarators-test.false))
