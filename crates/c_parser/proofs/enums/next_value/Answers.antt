use Rattle.std.proofs.Common.{Some, None, refl, sym, ap, subst, ◌∙◌, ◌∷◌, []}
use Rattle.c_grammar.specs.declared.signs.Sign.TheVariants as sign
use Rattle.c_grammar.specs.words.Faults.Fails.{no_memory}
use Rattle.c_parser.specs.inner.Values.{ValueStops}
use Rattle.c_grammar.proofs.Enumerators.{written_closed, written_trailing, written_none, written_no_name}
use Rattle.c_grammar.proofs.SignLemmas.{one_of}
use Rattle.c_grammar.proofs.Steps.{passed}
use Rattle.c_parser.proofs.enums.next_value.Goals as goal

pub returns-in_err-rest-clause-err : goal.returns-in_err-rest-clause-err
returns-in_err-rest-clause-err c = let f = c.in_err-rest.ensures.err in
    passed c.from_residual.result (ValueStops c.args.bounds.now.room c.args.bounds.now.end c.args.left.now)
    c.from_residual.ensures.1
    (written_none _ _ _ _ f.0 (sym c.is_next.ensures ∙ c.if-not-is_next.true) f.1)

pub returns-then-not-is_next-clause-ok : goal.returns-then-not-is_next-clause-ok
returns-then-not-is_next-clause-ok c = let t = c.in_ok-rest.ensures.ok in
    (([], (None, c.in_ok-rest.field-0-0.now)), refl, written_closed _ c.args.bounds.now.end _ _ _ t.0 t.1)

pub returns-in_err-after-clause-err : goal.returns-in_err-after-clause-err
returns-in_err-after-clause-err c = let f = c.in_err-after.ensures.err in
    passed c.from_residual-in_err-after.result (ValueStops c.args.bounds.now.room c.args.bounds.now.end c.args.left.now)
    c.from_residual-in_err-after.ensures.1
    (absurd (f.1 (one_of sign.Comma _ (sym c.is_next.ensures ∙ c.if-not-is_next.false))))

pub returns-in_err-rest-2-clause-err : goal.returns-in_err-rest-2-clause-err
returns-in_err-rest-2-clause-err c = let t = c.in_ok-after.ensures.ok in let f = c.in_err-rest-2.ensures.err in
    passed c.from_residual-in_err-rest-2.result (ValueStops c.args.bounds.now.room c.args.bounds.now.end
    c.args.left.now) c.from_residual-in_err-rest-2.ensures.1
    (written_no_name _ _ _ _ _ _ t.0 t.1 f.0 (sym c.is_next-2.ensures ∙ c.if-not-is_next-2.true) f.1)

pub returns-then-not-is_next-2-clause-ok : goal.returns-then-not-is_next-2-clause-ok
returns-then-not-is_next-2-clause-ok c = let t = c.in_ok-after.ensures.ok in let u = c.in_ok-rest-2.ensures.ok in (
  ([], (Some c.in_ok-after.field-0-0.now, c.in_ok-rest-2.field-0-0.now)),
  refl,
  written_trailing _ c.args.bounds.now.end _ _ _ _ (t.0 ∙ ap (λ l. c.in_ok-after.field-0-0.now ∷ l) u.0) t.1 u.1,
)

pub returns-in_err-next-clause-err : goal.returns-in_err-next-clause-err
returns-in_err-next-clause-err c =
    passed c.from_residual-in_err-next.result (ValueStops c.args.bounds.now.room c.args.bounds.now.end c.args.left.now)
    c.from_residual-in_err-next.ensures.1
    (subst (λ e. ValueStops c.args.bounds.now.room c.args.bounds.now.end c.args.left.now e)
    (sym (c.in_err-next.ensures.named (one_of sign.Id _ (sym c.is_next-2.ensures ∙ c.if-not-is_next-2.false))))
    no_memory)

pub returns-clause-ok : goal.returns-clause-ok
returns-clause-ok c = let t = c.in_ok-after.ensures.ok in let w = c.in_ok-next.ensures.ok in
    (c.in_ok-after.field-0-0.now, w.0, t.0 ∙ ap (λ l. c.in_ok-after.field-0-0.now ∷ l) w.1, t.1, w.2, w.3)
