use Rattle.std.proofs.Common.{refl, sym, subst}
use Rattle.std.proofs.lemmas.Result.{IfOk-weaker, IfErr-weaker}
use Rattle.c_grammar.specs.declared.signs.Sign.TheVariants as sign
use Rattle.c_reader.specs.Bounds.{Reads, Stops}
use Rattle.c_statements.specs.Shapes.{read_declarator, read_init_declarator}
use Rattle.c_grammar.proofs.Statements.{good_declarator}
use Rattle.c_grammar.proofs.Series.{word_fails, behind_fails, takes_behind}
use Rattle.c_grammar.proofs.Steps.{passed}
use Rattle.c_statements.proofs.Declarators.{least_declarator}
use Rattle.c_statements.proofs.declarations.init_declarator.Goals as goal

pub returns-then-not-starred-clause-ok : goal.returns-then-not-starred-clause-ok
returns-then-not-starred-clause-ok c =
    IfOk-weaker c.declarator.result (λ r. Reads read_declarator c.args.bounds.now c.args.left.now r.1.now r.0)
    (λ r. Reads (read_init_declarator c.args.starred) c.args.bounds.now c.args.left.now r.1.now r.0)
    (λ r t. subst (λ b. Reads (read_init_declarator b) c.args.bounds.now c.args.left.now r.1.now r.0)
    (sym c.if-not-starred.true) t)
    c.declarator.ensures.ok

pub returns-then-not-starred-clause-err : goal.returns-then-not-starred-clause-err
returns-then-not-starred-clause-err c =
    IfErr-weaker c.declarator.result (Stops read_declarator c.args.bounds.now c.args.left.now)
    (Stops (read_init_declarator c.args.starred) c.args.bounds.now c.args.left.now)
    (λ e f. subst (λ b. Stops (read_init_declarator b) c.args.bounds.now c.args.left.now e)
    (sym c.if-not-starred.true) f)
    c.declarator.ensures.err

pub returns-in_err-rest-clause-err : goal.returns-in_err-rest-clause-err
returns-in_err-rest-clause-err c =
    passed c.from_residual.result (Stops (read_init_declarator c.args.starred) c.args.bounds.now c.args.left.now)
    c.from_residual.ensures.1
    (subst (λ b. Stops (read_init_declarator b) c.args.bounds.now c.args.left.now c.in_err-rest.field-0.0)
    (sym c.if-not-starred.false)
    (word_fails sign.Star refl good_declarator (least_declarator _) c.in_err-rest.ensures.err))

pub returns-in_err-declarator-clause-err : goal.returns-in_err-declarator-clause-err
returns-in_err-declarator-clause-err c =
    passed c.from_residual-in_err-declarator.result (Stops (read_init_declarator c.args.starred) c.args.bounds.now
    c.args.left.now) c.from_residual-in_err-declarator.ensures.1
    (subst (λ b. Stops (read_init_declarator b) c.args.bounds.now c.args.left.now c.in_err-declarator.field-0.0)
    (sym c.if-not-starred.false)
    (behind_fails sign.Star refl good_declarator c.in_ok-rest.ensures.ok c.in_err-declarator.ensures.err))

pub returns-clause-ok : goal.returns-clause-ok
returns-clause-ok c =
    subst
    (λ b. Reads (read_init_declarator b) c.args.bounds.now c.args.left.now c.in_ok-declarator.rest.now
    c.in_ok-declarator.declarator) (sym c.if-not-starred.false)
    (takes_behind sign.Star refl good_declarator c.in_ok-rest.ensures.ok c.in_ok-declarator.ensures.ok)
