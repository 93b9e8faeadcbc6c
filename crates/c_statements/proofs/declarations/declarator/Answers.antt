use Rattle.std.proofs.Common.{refl}
use Rattle.c_grammar.specs.Syntax as s
use Rattle.c_reader.specs.Bounds.{Stops}
use Rattle.c_statements.specs.Shapes.{read_declarator}
use Rattle.c_grammar.proofs.Goods.{good_name}
use Rattle.c_grammar.proofs.Leasts.{least_absent}
use Rattle.c_grammar.proofs.Parts.{takes_made, fails_made}
use Rattle.c_grammar.proofs.Statements.{good_maybe_from}
use Rattle.c_grammar.proofs.Steps.{passed, pair, in_front, in_back, widen_takes, widen_fails}
use Rattle.c_grammar.proofs.Tokens.{takes_name}
use Rattle.c_statements.proofs.declarations.declarator.Goals as goal

pub returns-in_err-name-clause-err : goal.returns-in_err-name-clause-err
returns-in_err-name-clause-err c =
    passed c.from_residual.result (Stops read_declarator c.args.bounds.now c.args.left.now) c.from_residual.ensures.1
    (widen_fails _ _ _ refl refl refl
    (fails_made s.declarator_of _
    (in_front good_name good_maybe_from refl refl (least_absent _) c.in_err-name.ensures.err)))

pub returns-in_err-from-clause-err : goal.returns-in_err-from-clause-err
returns-in_err-from-clause-err c =
    passed c.from_residual-in_err-from.result (Stops read_declarator c.args.bounds.now c.args.left.now)
    c.from_residual-in_err-from.ensures.1
    (widen_fails _ _ _ refl refl refl
    (fails_made s.declarator_of _
    (in_back good_name good_maybe_from refl refl refl (takes_name _ _ _ _ c.in_ok-name.ensures.ok)
    c.in_err-from.ensures.err)))

pub returns-clause-ok : goal.returns-clause-ok
returns-clause-ok c = widen_takes _ _ refl refl
    (takes_made s.declarator_of
    (pair good_name good_maybe_from refl (takes_name _ _ _ _ c.in_ok-name.ensures.ok) c.in_ok-from.ensures.ok))
