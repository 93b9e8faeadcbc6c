use Rattle.std.proofs.Common.{refl}
use Rattle.c_grammar.specs.Syntax as s
use Rattle.c_grammar.specs.Syntax.{at_of}
use Rattle.c_grammar.specs.declared.signs.Sign.TheVariants as sign
use Rattle.c_reader.specs.Bounds.{Stops}
use Rattle.c_simples.specs.Shapes.{read_malloc}
use Rattle.c_grammar.proofs.Goods.{good_at}
use Rattle.c_grammar.proofs.Leasts.{least_size}
use Rattle.c_grammar.proofs.Parts.{takes_made, fails_made}
use Rattle.c_grammar.proofs.Sequences.{least_at, least_pair, least_bracketed}
use Rattle.c_grammar.proofs.Statements.{good_closed_size, good_maybe_cast, good_size}
use Rattle.c_grammar.proofs.Steps.{passed, pair, in_front, in_back, widen_takes, widen_fails, good_pair}
use Rattle.c_grammar.proofs.Tokens.{fails_one, takes_at, real}
use Rattle.c_simples.proofs.simples.malloc.Goals as goal

pub returns-in_err-cast-clause-err : goal.returns-in_err-cast-clause-err
returns-in_err-cast-clause-err c =
    passed c.from_residual.result (Stops read_malloc c.args.bounds.now c.args.left.now) c.from_residual.ensures.1
    (widen_fails _ _ _ refl refl refl
    (fails_made s.malloc_of _
    (in_front good_maybe_cast (good_pair (good_at sign.Malloc) good_closed_size refl) refl refl
    (least_pair (good_at sign.Malloc) good_closed_size refl refl _ (least_at sign.Malloc (real sign.Malloc tt) _)
    (least_bracketed good_size refl _ (least_size _))) c.in_err-cast.ensures.err)))

pub returns-in_err-token-clause-err : goal.returns-in_err-token-clause-err
returns-in_err-token-clause-err c =
    passed c.from_residual-in_err-token.result (Stops read_malloc c.args.bounds.now c.args.left.now)
    c.from_residual-in_err-token.ensures.1
    (widen_fails _ _ _ refl refl refl
    (fails_made s.malloc_of _
    (in_back good_maybe_cast (good_pair (good_at sign.Malloc) good_closed_size refl) refl refl refl
    c.in_ok-cast.ensures.ok
    (in_front (good_at sign.Malloc) good_closed_size refl refl
    (least_bracketed good_size refl _ (least_size _))
    (fails_made at_of _
    (fails_one sign.Malloc (real sign.Malloc tt) _ _ _ _ c.in_err-token.ensures.err.0
    c.in_err-token.ensures.err.1))))))

pub returns-in_err-size-clause-err : goal.returns-in_err-size-clause-err
returns-in_err-size-clause-err c =
    passed c.from_residual-in_err-size.result (Stops read_malloc c.args.bounds.now c.args.left.now)
    c.from_residual-in_err-size.ensures.1
    (widen_fails _ _ _ refl refl refl
    (fails_made s.malloc_of _
    (in_back good_maybe_cast (good_pair (good_at sign.Malloc) good_closed_size refl) refl refl refl
    c.in_ok-cast.ensures.ok
    (in_back (good_at sign.Malloc) good_closed_size refl refl refl
    (takes_at sign.Malloc _ _ _ _ c.in_ok-token.ensures.ok.0 c.in_ok-token.ensures.ok.1)
    c.in_err-size.ensures.err))))

pub returns-clause-ok : goal.returns-clause-ok
returns-clause-ok c = widen_takes _ _ refl refl
    (takes_made s.malloc_of
    (pair good_maybe_cast (good_pair (good_at sign.Malloc) good_closed_size refl) refl c.in_ok-cast.ensures.ok
    (pair (good_at sign.Malloc) good_closed_size refl
    (takes_at sign.Malloc _ _ _ _ c.in_ok-token.ensures.ok.0 c.in_ok-token.ensures.ok.1) c.in_ok-size.ensures.ok)))
