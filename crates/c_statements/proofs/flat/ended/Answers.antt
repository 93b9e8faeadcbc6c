use Rattle.std.proofs.Common.{refl}
use Rattle.c_grammar.specs.Syntax as s
use Rattle.c_grammar.specs.declared.signs.Sign.TheVariants as sign
use Rattle.c_reader.specs.Bounds.{Stops}
use Rattle.c_statements.specs.Shapes.{read_ended}
use Rattle.c_grammar.proofs.Goods.{good_one, good_at}
use Rattle.c_grammar.proofs.Parts.{takes_made, fails_made}
use Rattle.c_grammar.proofs.Sequences.{least_one}
use Rattle.c_grammar.proofs.Steps.{passed, pair, in_front, in_back, widen_takes, widen_fails}
use Rattle.c_grammar.proofs.Tokens.{fails_token, fails_at, reads_token, reads_at, real}
use Rattle.c_statements.proofs.Words.{steady_behind}
use Rattle.c_statements.proofs.flat.ended.Goals as goal

pub returns-in_err-token-clause-err : goal.returns-in_err-token-clause-err
returns-in_err-token-clause-err c =
    passed c.from_residual.result (Stops (read_ended c.args.word) c.args.bounds.now c.args.left.now)
    c.from_residual.ensures.1
    (widen_fails _ _ _ refl refl refl
    (fails_made s.first _
    (in_front (good_at c.args.word) (good_one sign.Semicolon) refl refl
    (least_one sign.Semicolon (real sign.Semicolon tt) _)
    (fails_at c.args.word c.requires c.in_err-token.ensures.err))))

pub returns-in_err-rest-clause-err : goal.returns-in_err-rest-clause-err
returns-in_err-rest-clause-err c =
    passed c.from_residual-in_err-rest.result (Stops (read_ended c.args.word) c.args.bounds.now c.args.left.now)
    c.from_residual-in_err-rest.ensures.1
    (widen_fails _ _ _ refl refl refl
    (fails_made s.first _
    (in_back (good_at c.args.word) (good_one sign.Semicolon) refl refl (steady_behind c.args.word c.requires)
    (reads_at c.args.word c.in_ok-token.ensures.ok)
    (fails_token sign.Semicolon (real sign.Semicolon tt) c.in_err-rest.ensures.err))))

pub returns-clause-ok : goal.returns-clause-ok
returns-clause-ok c = widen_takes _ _ refl refl
    (takes_made s.first
    (pair (good_at c.args.word) (good_one sign.Semicolon) refl (reads_at c.args.word c.in_ok-token.ensures.ok)
    (reads_token sign.Semicolon c.in_ok-rest.ensures.ok)))
