use Rattle.std.proofs.Common.{refl}
use Rattle.c_grammar.specs.words.Sets.{no_sign}
use Rattle.c_reader.specs.Bounds.{Stops}
use Rattle.c_grammar.specs.words.Shapes.{a_path, an_arrow}
use Rattle.c_grammar.specs.Syntax.{path_of}
use Rattle.c_grammar.proofs.Goods.{good_name, good_arrows}
use Rattle.c_grammar.proofs.Parts.{takes_made, fails_made}
use Rattle.c_grammar.proofs.Repeats.{least_many}
use Rattle.c_grammar.proofs.Steps.{passed, pair, in_front, in_back, widen_takes, widen_fails}
use Rattle.c_grammar.proofs.Tokens.{takes_name}
use Rattle.c_operands.proofs.paths.path.Goals as goal

pub returns-in_err-head-clause-err : goal.returns-in_err-head-clause-err
returns-in_err-head-clause-err c =
    passed c.from_residual.result (Stops a_path c.args.bounds.now c.args.left.now) c.from_residual.ensures.1
    (widen_fails _ _ _ refl refl refl
    (fails_made path_of _
    (in_front good_name good_arrows refl refl (least_many an_arrow.rule no_sign _) c.in_err-head.ensures.err)))

pub returns-in_err-arrows-clause-err : goal.returns-in_err-arrows-clause-err
returns-in_err-arrows-clause-err c =
    passed c.from_residual-in_err-arrows.result (Stops a_path c.args.bounds.now c.args.left.now)
    c.from_residual-in_err-arrows.ensures.1
    (widen_fails _ _ _ refl refl refl
    (fails_made path_of _
    (in_back good_name good_arrows refl refl refl (takes_name _ _ _ _ c.in_ok-head.ensures.ok)
    c.in_err-arrows.ensures.err)))

pub returns-clause-ok : goal.returns-clause-ok
returns-clause-ok c = widen_takes _ _ refl refl
    (takes_made path_of
    (pair good_name good_arrows refl (takes_name _ _ _ _ c.in_ok-head.ensures.ok) c.in_ok-arrows.ensures.ok))
