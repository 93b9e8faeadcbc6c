use Rattle.std.proofs.Common.{refl, sym, ap, arith, ◌∙◌, ◌++◌, ◌∷◌, []}
use Rattle.c_grammar.specs.declared.signs.Sign.TheVariants as sign
use Rattle.c_grammar.specs.words.Faults.Fails.{no_memory}
use Rattle.c_grammar.specs.words.Sets.{no_sign, commas}
use Rattle.c_reader.specs.Bounds.{Stops}
use Rattle.c_parser.specs.inner.Shapes.{read_names}
use Rattle.c_grammar.proofs.Lists.{lists, leads_more, leads_end, leads_stuck, leads_as}
use Rattle.c_grammar.proofs.Series.{series_fails, series_begun}
use Rattle.c_grammar.proofs.Steps.{passed}
use Rattle.c_parser.proofs.FieldForms.{good_field_name, good_next_name}
use Rattle.c_parser.proofs.fields.names.Goals as goal

pub returns-in_err-first-clause-err : goal.returns-in_err-first-clause-err
returns-in_err-first-clause-err c =
    passed c.from_residual.result (Stops (read_names c.args.starred) c.args.bounds.now c.args.left.now)
    c.from_residual.ensures.1
    (series_fails sign.Comma commas no_sign (good_field_name c.args.starred) refl refl refl c.in_err-first.ensures.err)

pub returns-in_err-push-clause-err : goal.returns-in_err-push-clause-err
returns-in_err-push-clause-err c =
    passed c.from_residual-in_err-push.result (Stops (read_names c.args.starred) c.args.bounds.now c.args.left.now)
    c.from_residual-in_err-push.ensures.1 no_memory

pub names-init : goal.names-init
names-init c = record {
  shorter = c.in_ok-first.ensures.shorter;
  leads =
      leads_as (c.in_ok-push.ensures.ok ∙ ap (λ l. l ++ c.in_ok-first.first ∷ []) c.new-all.ensures)
      (series_begun sign.Comma commas no_sign (good_field_name c.args.starred) refl refl refl c.in_ok-first.ensures.ok);
}

pub returns-in_err-next-clause-err : goal.returns-in_err-next-clause-err
returns-in_err-next-clause-err c =
    passed c.from_residual-in_err-next.result (Stops (read_names c.args.starred) c.args.bounds.now c.args.left.now)
    c.from_residual-in_err-next.ensures.1
    (leads_stuck (good_next_name c.args.starred) (lists commas no_sign no_sign no_sign refl refl refl refl refl)
    c.names.invariant.leads (sym c.is_next.ensures ∙ c.names-test.true) _ c.in_err-next.ensures.err)

pub returns-in_err-push-2-clause-err : goal.returns-in_err-push-2-clause-err
returns-in_err-push-2-clause-err c =
    passed c.from_residual-in_err-push-2.result (Stops (read_names c.args.starred) c.args.bounds.now c.args.left.now)
    c.from_residual-in_err-push-2.ensures.1 no_memory

pub names-preserved : goal.names-preserved
names-preserved c = record {
  shorter = omega (arith, c.names.invariant.shorter, c.in_ok-next.ensures.shorter);
  leads =
      leads_as c.in_ok-push-2.ensures.ok
      (leads_more (good_next_name c.args.starred) (lists commas no_sign no_sign no_sign refl refl refl refl refl)
      c.names.invariant.leads _ _ (sym c.is_next.ensures ∙ c.names-test.true) c.in_ok-next.ensures.ok);
}

pub returns-clause-ok : goal.returns-clause-ok
returns-clause-ok c = leads_end (good_next_name c.args.starred)
    (lists commas no_sign no_sign no_sign refl refl refl refl refl) c.names.invariant.leads
    (sym c.is_next.ensures ∙ c.names-test.false)
