use Rattle.std.proofs.Common.{refl, sym, subst}
use Rattle.std.proofs.lemmas.Result.{IfOk-weaker, IfErr-weaker}
use Rattle.c_grammar.specs.declared.signs.Sign.TheVariants as sign
use Rattle.c_grammar.specs.words.Shapes.{IsName, a_name}
use Rattle.c_reader.specs.Bounds.{Reads, Stops}
use Rattle.c_parser.specs.inner.Shapes.{read_field_name}
use Rattle.c_grammar.proofs.Goods.{good_name}
use Rattle.c_grammar.proofs.Leasts.{least_name}
use Rattle.c_grammar.proofs.Series.{word_fails, behind_fails, takes_behind}
use Rattle.c_grammar.proofs.Steps.{passed}
use Rattle.c_grammar.proofs.Tokens.{takes_name}
use Rattle.c_parser.proofs.fields.field_name.Goals as goal

pub returns-then-not-starred-clause-ok : goal.returns-then-not-starred-clause-ok
returns-then-not-starred-clause-ok c =
    IfOk-weaker c.name.result (λ r. IsName c.args.left.now r.1.now r.0)
    (λ r. Reads (read_field_name c.args.starred) c.args.bounds.now c.args.left.now r.1.now r.0)
    (λ r t. subst (λ b. Reads (read_field_name b) c.args.bounds.now c.args.left.now r.1.now r.0)
    (sym c.if-not-starred.true) (takes_name _ _ _ _ t)) c.name.ensures.ok

pub returns-then-not-starred-clause-err : goal.returns-then-not-starred-clause-err
returns-then-not-starred-clause-err c =
    IfErr-weaker c.name.result (Stops a_name c.args.bounds.now c.args.left.now)
    (Stops (read_field_name c.args.starred) c.args.bounds.now c.args.left.now)
    (λ e f. subst (λ b. Stops (read_field_name b) c.args.bounds.now c.args.left.now e) (sym c.if-not-starred.true) f)
    c.name.ensures.err

pub returns-in_err-rest-clause-err : goal.returns-in_err-rest-clause-err
returns-in_err-rest-clause-err c =
    passed c.from_residual.result (Stops (read_field_name c.args.starred) c.args.bounds.now c.args.left.now)
    c.from_residual.ensures.1
    (subst (λ b. Stops (read_field_name b) c.args.bounds.now c.args.left.now c.in_err-rest.field-0.0)
    (sym c.if-not-starred.false)
    (word_fails sign.Star refl good_name (least_name _) c.in_err-rest.ensures.err))

pub returns-in_err-name-clause-err : goal.returns-in_err-name-clause-err
returns-in_err-name-clause-err c =
    passed c.from_residual-in_err-name.result (Stops (read_field_name c.args.starred) c.args.bounds.now c.args.left.now)
    c.from_residual-in_err-name.ensures.1
    (subst (λ b. Stops (read_field_name b) c.args.bounds.now c.args.left.now c.in_err-name.field-0.0)
    (sym c.if-not-starred.false)
    (behind_fails sign.Star refl good_name c.in_ok-rest.ensures.ok c.in_err-name.ensures.err))

pub returns-clause-ok : goal.returns-clause-ok
returns-clause-ok c =
    subst (λ b. Reads (read_field_name b) c.args.bounds.now c.args.left.now c.in_ok-name.rest.now c.in_ok-name.name)
    (sym c.if-not-starred.false)
    (takes_behind sign.Star refl good_name c.in_ok-rest.ensures.ok (takes_name _ _ _ _ c.in_ok-name.ensures.ok))
