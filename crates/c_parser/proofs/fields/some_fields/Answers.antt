use Rattle.std.proofs.Common.{refl, sym, ap, arith, ◌∙◌, ◌++◌, ◌∷◌, []}
use Rattle.c_grammar.specs.Syntax as s
use Rattle.c_grammar.specs.words.Faults.Fails.{no_memory}
use Rattle.c_grammar.specs.words.Sets.{no_sign, begins_declare}
use Rattle.c_reader.specs.Bounds.{Stops}
use Rattle.c_parser.specs.inner.Shapes.{read_field, read_some_fields}
use Rattle.c_grammar.proofs.Items.{good_field, good_more_fields}
use Rattle.c_grammar.proofs.Lists.{lists, leads_more, leads_end, leads_stuck, leads_as}
use Rattle.c_grammar.proofs.Parts.{takes_made, fails_made}
use Rattle.c_grammar.proofs.Repeats.{least_many}
use Rattle.c_grammar.proofs.Steps.{passed, pair, in_front, in_back, widen_takes, widen_fails}
use Rattle.c_parser.proofs.fields.some_fields.Goals as goal

pub returns-in_err-first-clause-err : goal.returns-in_err-first-clause-err
returns-in_err-first-clause-err c =
    passed c.from_residual.result (Stops read_some_fields c.args.bounds.now c.args.left.now) c.from_residual.ensures.1
    (widen_fails _ _ _ refl refl refl
    (fails_made s.joined _
    (in_front good_field good_more_fields refl refl (least_many read_field.rule no_sign _)
    c.in_err-first.ensures.err)))

pub returns-in_err-push-clause-err : goal.returns-in_err-push-clause-err
returns-in_err-push-clause-err c =
    passed c.from_residual-in_err-push.result (Stops read_some_fields c.args.bounds.now c.args.left.now)
    c.from_residual-in_err-push.ensures.1 no_memory

pub fields-init : goal.fields-init
fields-init c = record {
  shorter = c.in_ok-first.ensures.shorter;
  leads =
      leads_as (c.in_ok-push.ensures.ok ∙ ap (λ l. l ++ c.in_ok-first.first ∷ []) c.new-all.ensures)
      (record {
        takes = λ rest ys u. widen_takes _ _ refl refl
            (takes_made s.joined
            (pair good_field good_more_fields refl c.in_ok-first.ensures.ok (widen_takes _ _ refl refl u)));
        fails = λ e x. widen_fails _ _ _ refl refl refl
            (fails_made s.joined _
            (in_back good_field good_more_fields refl refl refl c.in_ok-first.ensures.ok
            (widen_fails _ _ no_sign refl refl refl x)));
      });
}

pub returns-in_err-next-clause-err : goal.returns-in_err-next-clause-err
returns-in_err-next-clause-err c =
    passed c.from_residual-in_err-next.result (Stops read_some_fields c.args.bounds.now c.args.left.now)
    c.from_residual-in_err-next.ensures.1
    (leads_stuck good_field (lists begins_declare no_sign no_sign no_sign refl refl refl refl refl)
    c.fields.invariant.leads
    (sym (ap (λ s. begins_declare s) c.peek.ensures) ∙ sym c.begins_declare.ensures ∙ c.fields-test.true) _
    c.in_err-next.ensures.err)

pub returns-in_err-push-2-clause-err : goal.returns-in_err-push-2-clause-err
returns-in_err-push-2-clause-err c =
    passed c.from_residual-in_err-push-2.result (Stops read_some_fields c.args.bounds.now c.args.left.now)
    c.from_residual-in_err-push-2.ensures.1 no_memory

pub fields-preserved : goal.fields-preserved
fields-preserved c = record {
  shorter = omega (arith, c.fields.invariant.shorter, c.in_ok-next.ensures.shorter);
  leads =
      leads_as c.in_ok-push-2.ensures.ok
      (leads_more good_field (lists begins_declare no_sign no_sign no_sign refl refl refl refl refl)
      c.fields.invariant.leads _ _
      (sym (ap (λ s. begins_declare s) c.peek.ensures) ∙ sym c.begins_declare.ensures ∙ c.fields-test.true)
      c.in_ok-next.ensures.ok);
}

pub returns-clause-ok : goal.returns-clause-ok
returns-clause-ok c = leads_end good_field (lists begins_declare no_sign no_sign no_sign refl refl refl refl refl)
    c.fields.invariant.leads
    (sym (ap (λ s. begins_declare s) c.peek.ensures) ∙ sym c.begins_declare.ensures ∙ c.fields-test.false)
