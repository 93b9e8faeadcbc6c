use Rattle.std.proofs.Common.{false, refl}
use Rattle.c_grammar.specs.Syntax as s
use Rattle.c_grammar.specs.Syntax.{data_part}
use Rattle.c_grammar.specs.declared.signs.Sign.TheVariants as sign
use Rattle.c_grammar.specs.words.Parted.{begins_data, declarators_go_on}
use Rattle.c_grammar.specs.words.Sets.{names, no_sign}
use Rattle.c_reader.specs.Bounds.{Stops}
use Rattle.c_statements.specs.Shapes.{read_datum_declare, read_declarators}
use Rattle.c_grammar.proofs.Closings.{Enclosed, closed, enclosed, outer_fails, inner_fails, end_fails, takes_enclosed}
use Rattle.c_grammar.proofs.Statements.{good_data, good_datums}
use Rattle.c_grammar.proofs.Steps.{passed}
use Rattle.c_grammar.proofs.Tokens.{real}
use Rattle.c_statements.proofs.Declarators.{least_declarators}
use Rattle.c_statements.proofs.declarations.datum_declare.Goals as goal

ended : Enclosed (λ n. data_part) begins_data (read_declarators false).rule names declarators_go_on no_sign false
    sign.Semicolon no_sign
ended = enclosed good_data (closed good_datums (real sign.Semicolon tt) refl refl refl) (least_declarators false) refl
    refl refl refl

pub returns-in_err-data-clause-err : goal.returns-in_err-data-clause-err
returns-in_err-data-clause-err c =
    passed c.from_residual.result (Stops read_datum_declare c.args.bounds.now c.args.left.now) c.from_residual.ensures.1
    (outer_fails ended s.datums_of c.in_err-data.ensures.err)

pub returns-in_err-vars-clause-err : goal.returns-in_err-vars-clause-err
returns-in_err-vars-clause-err c =
    passed c.from_residual-in_err-vars.result (Stops read_datum_declare c.args.bounds.now c.args.left.now)
    c.from_residual-in_err-vars.ensures.1
    (inner_fails ended s.datums_of refl c.in_ok-data.ensures.ok c.in_err-vars.ensures.err)

pub returns-in_err-rest-clause-err : goal.returns-in_err-rest-clause-err
returns-in_err-rest-clause-err c =
    passed c.from_residual-in_err-rest.result (Stops read_datum_declare c.args.bounds.now c.args.left.now)
    c.from_residual-in_err-rest.ensures.1
    (end_fails ended s.datums_of c.in_ok-data.ensures.ok c.in_ok-vars.ensures.ok c.in_err-rest.ensures.err)

pub returns-clause-ok : goal.returns-clause-ok
returns-clause-ok c =
    takes_enclosed ended s.datums_of c.in_ok-data.ensures.ok c.in_ok-vars.ensures.ok c.in_ok-rest.ensures.ok
