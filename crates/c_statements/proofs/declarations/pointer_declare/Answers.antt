use Rattle.std.proofs.Common.{true, false, [], ◌∷◌, refl}
use Rattle.c_grammar.specs.Syntax as s
use Rattle.c_grammar.specs.declared.signs.Sign.TheVariants as sign
use Rattle.c_grammar.specs.words.Parted.{declarators_go_on}
use Rattle.c_grammar.specs.words.Sets.{among, no_sign}
use Rattle.c_reader.specs.Bounds.{Stops}
use Rattle.c_statements.specs.Shapes.{read_declarators, read_named, read_pointer_declare}
use Rattle.c_grammar.proofs.Closings.{Enclosed, closed, enclosed, outer_fails, inner_fails, end_fails, takes_enclosed}
use Rattle.c_grammar.proofs.Heads.{apart, same_apart}
use Rattle.c_grammar.proofs.Statements.{good_pointers}
use Rattle.c_grammar.proofs.Parts.{takes_same, fails_same}
use Rattle.c_grammar.proofs.Steps.{passed}
use Rattle.c_grammar.proofs.Tokens.{real}
use Rattle.c_statements.proofs.Declarators.{least_declarators}
use Rattle.c_statements.proofs.Words.{good_named}
use Rattle.c_statements.proofs.declarations.pointer_declare.Goals as goal

ended : Enclosed (read_named sign.Struct).rule (among (sign.Struct ∷ [])) (read_declarators true).rule
    (among (sign.Star ∷ [])) declarators_go_on no_sign false sign.Semicolon no_sign
ended = enclosed (good_named sign.Struct) (closed good_pointers (real sign.Semicolon tt) refl refl refl)
    (least_declarators true) refl refl refl refl

pub returns-in_err-head-clause-err : goal.returns-in_err-head-clause-err
returns-in_err-head-clause-err c =
    passed c.from_residual.result (Stops read_pointer_declare c.args.bounds.now c.args.left.now)
    c.from_residual.ensures.1
    (fails_same (same_apart s.pointers_of) _ (outer_fails ended (apart s.pointers_of) c.in_err-head.ensures.err))

pub returns-in_err-vars-clause-err : goal.returns-in_err-vars-clause-err
returns-in_err-vars-clause-err c =
    passed c.from_residual-in_err-vars.result (Stops read_pointer_declare c.args.bounds.now c.args.left.now)
    c.from_residual-in_err-vars.ensures.1
    (fails_same (same_apart s.pointers_of) _
    (inner_fails ended (apart s.pointers_of) refl c.in_ok-head.ensures.ok c.in_err-vars.ensures.err))

pub returns-in_err-rest-clause-err : goal.returns-in_err-rest-clause-err
returns-in_err-rest-clause-err c =
    passed c.from_residual-in_err-rest.result (Stops read_pointer_declare c.args.bounds.now c.args.left.now)
    c.from_residual-in_err-rest.ensures.1
    (fails_same (same_apart s.pointers_of) _
    (end_fails ended (apart s.pointers_of) c.in_ok-head.ensures.ok c.in_ok-vars.ensures.ok c.in_err-rest.ensures.err))

pub returns-clause-ok : goal.returns-clause-ok
returns-clause-ok c = takes_same (same_apart s.pointers_of)
    (takes_enclosed ended (apart s.pointers_of) c.in_ok-head.ensures.ok c.in_ok-vars.ensures.ok c.in_ok-rest.ensures.ok)
