use Rattle.std.proofs.Common.{refl}
use Rattle.c_grammar.specs.declared.signs.Sign.TheVariants as sign
use Rattle.c_reader.specs.Bounds.{Stops}
use Rattle.c_parser.specs.inner.Shapes.{read_next_param}
use Rattle.c_grammar.proofs.ItemLeasts.{least_param}
use Rattle.c_grammar.proofs.Items.{good_param}
use Rattle.c_grammar.proofs.Series.{word_fails, behind_fails, takes_behind}
use Rattle.c_grammar.proofs.Steps.{passed}
use Rattle.c_parser.proofs.heads.next_param.Goals as goal

pub returns-in_err-rest-clause-err : goal.returns-in_err-rest-clause-err
returns-in_err-rest-clause-err c =
    passed c.from_residual.result (Stops read_next_param c.args.bounds.now c.args.left.now) c.from_residual.ensures.1
    (word_fails sign.Comma refl good_param (least_param _) c.in_err-rest.ensures.err)

pub returns-in_err-param-clause-err : goal.returns-in_err-param-clause-err
returns-in_err-param-clause-err c =
    passed c.from_residual-in_err-param.result (Stops read_next_param c.args.bounds.now c.args.left.now)
    c.from_residual-in_err-param.ensures.1
    (behind_fails sign.Comma refl good_param c.in_ok-rest.ensures.ok c.in_err-param.ensures.err)

pub returns-clause-ok : goal.returns-clause-ok
returns-clause-ok c = takes_behind sign.Comma refl good_param c.in_ok-rest.ensures.ok c.in_ok-param.ensures.ok
