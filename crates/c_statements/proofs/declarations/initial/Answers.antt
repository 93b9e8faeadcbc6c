use Rattle.std.proofs.Common.{refl}
use Rattle.c_grammar.specs.declared.signs.Sign.TheVariants as sign
use Rattle.c_reader.specs.Bounds.{Stops}
use Rattle.c_statements.specs.Shapes.{read_initial}
use Rattle.c_grammar.proofs.Leasts.{least_rhs}
use Rattle.c_grammar.proofs.Statements.{good_rhs}
use Rattle.c_grammar.proofs.Series.{word_fails, behind_fails, takes_behind}
use Rattle.c_grammar.proofs.Steps.{passed}
use Rattle.c_statements.proofs.declarations.initial.Goals as goal

pub returns-in_err-rest-clause-err : goal.returns-in_err-rest-clause-err
returns-in_err-rest-clause-err c =
    passed c.from_residual.result (Stops read_initial c.args.bounds.now c.args.left.now) c.from_residual.ensures.1
    (word_fails sign.Assign refl good_rhs (least_rhs _) c.in_err-rest.ensures.err)

pub returns-in_err-rhs-clause-err : goal.returns-in_err-rhs-clause-err
returns-in_err-rhs-clause-err c =
    passed c.from_residual-in_err-rhs.result (Stops read_initial c.args.bounds.now c.args.left.now)
    c.from_residual-in_err-rhs.ensures.1
    (behind_fails sign.Assign refl good_rhs c.in_ok-rest.ensures.ok c.in_err-rhs.ensures.err)

pub returns-clause-ok : goal.returns-clause-ok
returns-clause-ok c = takes_behind sign.Assign refl good_rhs c.in_ok-rest.ensures.ok c.in_ok-rhs.ensures.ok
