use Rattle.std.proofs.Common.{refl}
use Rattle.c_reader.specs.Bounds.{Stops}
use Rattle.c_grammar.specs.words.Shapes.{an_arrow}
use Rattle.c_grammar.specs.Syntax.{arrow_of, at_of}
use Rattle.c_grammar.specs.declared.signs.Sign.TheVariants.{Arrow}
use Rattle.c_grammar.proofs.Goods.{good_at, good_name}
use Rattle.c_grammar.proofs.Leasts.{least_name}
use Rattle.c_grammar.proofs.Parts.{takes_made, fails_made}
use Rattle.c_grammar.proofs.Steps.{passed, pair, in_front, in_back, widen_takes, widen_fails}
use Rattle.c_grammar.proofs.Tokens.{fails_one, real, takes_at, takes_name}
use Rattle.c_operands.proofs.paths.arrow.Goals as goal

pub returns-in_err-token-clause-err : goal.returns-in_err-token-clause-err
returns-in_err-token-clause-err c =
    let f = c.in_err-token.ensures.err in
    passed c.from_residual.result (Stops an_arrow c.args.bounds.now c.args.left.now) c.from_residual.ensures.1
    (widen_fails _ _ _ refl refl refl
    (fails_made arrow_of _
    (in_front (good_at Arrow) good_name refl refl (least_name _)
    (fails_made at_of _ (fails_one Arrow (real Arrow tt) _ _ _ _ f.0 f.1)))))

pub returns-in_err-field-clause-err : goal.returns-in_err-field-clause-err
returns-in_err-field-clause-err c =
    let t = c.in_ok-token.ensures.ok in
    passed c.from_residual-in_err-field.result (Stops an_arrow c.args.bounds.now c.args.left.now)
    c.from_residual-in_err-field.ensures.1
    (widen_fails _ _ _ refl refl refl
    (fails_made arrow_of _
    (in_back (good_at Arrow) good_name refl refl refl (takes_at Arrow _ _ _ _ t.0 t.1) c.in_err-field.ensures.err)))

pub returns-clause-ok : goal.returns-clause-ok
returns-clause-ok c =
    let t = c.in_ok-token.ensures.ok in
    widen_takes _ _ refl refl
    (takes_made arrow_of
    (pair (good_at Arrow) good_name refl (takes_at Arrow _ _ _ _ t.0 t.1)
    (takes_name _ _ _ _ c.in_ok-field.ensures.ok)))
