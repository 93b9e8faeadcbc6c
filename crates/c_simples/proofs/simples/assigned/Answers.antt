use Rattle.std.proofs.Common.{List, refl, inr}
use Rattle.c_ast.specs.declared.operands.Arrow.{Arrow}
use Rattle.c_ast.specs.declared.simples.Rhs.{Rhs}
use Rattle.c_lexer.specs.declared.token.Token.{Token}
use Rattle.c_grammar.specs.declared.signs.Sign.TheVariants as sign
use Rattle.c_grammar.specs.words.Parted.{simple_word}
use Rattle.c_reader.specs.Bounds.{Stops}
use Rattle.c_simples.specs.Shapes.{read_assigned}
use Rattle.c_grammar.proofs.Goods.{good_one, good_arrows}
use Rattle.c_grammar.proofs.Leasts.{least_rhs}
use Rattle.c_grammar.proofs.Parts.{takes_made, fails_made, takes_token}
use Rattle.c_grammar.proofs.Sequences.{least_one, least_pair}
use Rattle.c_grammar.proofs.Statements.{good_rhs}
use Rattle.c_grammar.proofs.Steps.{passed, pair, in_front, in_back, widen_takes, widen_fails, good_pair}
use Rattle.c_grammar.proofs.Tokens.{fails_one, real}
use Rattle.c_simples.proofs.simples.assigned.Goals as goal

pub returns-in_err-arrows-clause-err : goal.returns-in_err-arrows-clause-err
returns-in_err-arrows-clause-err c =
    passed c.from_residual.result (Stops (read_assigned c.args.name) c.args.bounds.now c.args.left.now)
    c.from_residual.ensures.1
    (widen_fails _ _ _ refl refl refl
    (fails_made (λ (q : List Arrow × (Token × Rhs)). simple_word (c.args.name, inr q)) _
    (in_front good_arrows (good_pair (good_one sign.Assign) good_rhs refl) refl refl
    (least_pair (good_one sign.Assign) good_rhs refl refl _ (least_one sign.Assign (real sign.Assign tt) _)
    (least_rhs _)) c.in_err-arrows.ensures.err)))

pub returns-in_err-rest-clause-err : goal.returns-in_err-rest-clause-err
returns-in_err-rest-clause-err c =
    passed c.from_residual-in_err-rest.result (Stops (read_assigned c.args.name) c.args.bounds.now c.args.left.now)
    c.from_residual-in_err-rest.ensures.1
    (widen_fails _ _ _ refl refl refl
    (fails_made (λ (q : List Arrow × (Token × Rhs)). simple_word (c.args.name, inr q)) _
    (in_back good_arrows (good_pair (good_one sign.Assign) good_rhs refl) refl refl refl c.in_ok-arrows.ensures.ok
    (in_front (good_one sign.Assign) good_rhs refl refl (least_rhs _)
    (fails_one sign.Assign (real sign.Assign tt) _ _ _ _ c.in_err-rest.ensures.err.0
    c.in_err-rest.ensures.err.1)))))

pub returns-in_err-from-clause-err : goal.returns-in_err-from-clause-err
returns-in_err-from-clause-err c =
    passed c.from_residual-in_err-from.result (Stops (read_assigned c.args.name) c.args.bounds.now c.args.left.now)
    c.from_residual-in_err-from.ensures.1
    (widen_fails _ _ _ refl refl refl
    (fails_made (λ (q : List Arrow × (Token × Rhs)). simple_word (c.args.name, inr q)) _
    (in_back good_arrows (good_pair (good_one sign.Assign) good_rhs refl) refl refl refl c.in_ok-arrows.ensures.ok
    (in_back (good_one sign.Assign) good_rhs refl refl refl
    (takes_token sign.Assign _ _ _ _ c.in_ok-rest.ensures.ok.0 c.in_ok-rest.ensures.ok.1)
    c.in_err-from.ensures.err))))

pub returns-clause-ok : goal.returns-clause-ok
returns-clause-ok c = widen_takes _ _ refl refl
    (takes_made (λ (q : List Arrow × (Token × Rhs)). simple_word (c.args.name, inr q))
    (pair good_arrows (good_pair (good_one sign.Assign) good_rhs refl) refl c.in_ok-arrows.ensures.ok
    (pair (good_one sign.Assign) good_rhs refl
    (takes_token sign.Assign _ _ _ _ c.in_ok-rest.ensures.ok.0 c.in_ok-rest.ensures.ok.1) c.in_ok-from.ensures.ok)))
