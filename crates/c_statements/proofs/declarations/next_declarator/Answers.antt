use Rattle.std.proofs.Common.{refl}
use Rattle.c_grammar.specs.declared.signs.Sign.TheVariants as sign
use Rattle.c_reader.specs.Bounds.{Stops}
use Rattle.c_statements.specs.Shapes.{read_next_declarator}
use Rattle.c_grammar.proofs.Series.{word_fails, behind_fails, takes_behind}
use Rattle.c_grammar.proofs.Steps.{passed}
use Rattle.c_statements.proofs.Declarators.{good_init_declarator, least_init_declarator}
use Rattle.c_statements.proofs.declarations.next_declarator.Goals as goal

pub returns-in_err-rest-clause-err : goal.returns-in_err-rest-clause-err
returns-in_err-rest-clause-err c =
    passed c.from_residual.result (Stops (read_next_declarator c.args.starred) c.args.bounds.now c.args.left.now)
    c.from_residual.ensures.1
    (word_fails sign.Comma refl (good_init_declarator c.args.starred) (least_init_declarator c.args.starred _)
    c.in_err-rest.ensures.err)

pub returns-in_err-declarator-clause-err : goal.returns-in_err-declarator-clause-err
returns-in_err-declarator-clause-err c =
    passed c.from_residual-in_err-declarator.result (Stops (read_next_declarator c.args.starred) c.args.bounds.now
    c.args.left.now) c.from_residual-in_err-declarator.ensures.1
    (behind_fails sign.Comma refl (good_init_declarator c.args.starred) c.in_ok-rest.ensures.ok
    c.in_err-declarator.ensures.err)

pub returns-clause-ok : goal.returns-clause-ok
returns-clause-ok c =
    takes_behind sign.Comma refl (good_init_declarator c.args.starred) c.in_ok-rest.ensures.ok
    c.in_ok-declarator.ensures.ok
