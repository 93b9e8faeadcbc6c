use Rattle.std.proofs.Common.{refl}
use Rattle.c_grammar.specs.Syntax.{at_of}
use Rattle.c_grammar.specs.declared.signs.Sign.TheVariants as sign
use Rattle.c_grammar.specs.words.Parted.{Sized, size_of}
use Rattle.c_reader.specs.Bounds.{Stops}
use Rattle.c_simples.specs.Shapes.{read_size}
use Rattle.c_grammar.proofs.Goods.{good_at}
use Rattle.c_grammar.proofs.Leasts.{least_sized}
use Rattle.c_grammar.proofs.Parts.{takes_made, fails_made, takes_same, fails_same}
use Rattle.c_grammar.proofs.Sequences.{takes_as, takes_unmade, fails_unmade}
use Rattle.c_grammar.proofs.Statements.{good_sized, same_size}
use Rattle.c_grammar.proofs.Steps.{passed, pair, in_front, in_back, widen_takes, widen_fails}
use Rattle.c_grammar.proofs.Tokens.{fails_one, takes_at, real}
use Rattle.c_simples.proofs.simples.size.Goals as goal

pub returns-in_err-token-clause-err : goal.returns-in_err-token-clause-err
returns-in_err-token-clause-err c =
    passed c.from_residual.result (Stops read_size c.args.bounds.now c.args.left.now) c.from_residual.ensures.1
    (fails_same same_size _
    (widen_fails _ _ _ refl refl refl
    (fails_made size_of _
    (in_front (good_at sign.Sizeof) good_sized refl refl (least_sized _)
    (fails_made at_of _
    (fails_one sign.Sizeof (real sign.Sizeof tt) _ _ _ _ c.in_err-token.ensures.err.0
    c.in_err-token.ensures.err.1))))))

pub returns-in_err-size-clause-err : goal.returns-in_err-size-clause-err
returns-in_err-size-clause-err c =
    passed c.from_residual-in_err-size.result (Stops read_size c.args.bounds.now c.args.left.now)
    c.from_residual-in_err-size.ensures.1
    (fails_same same_size _
    (widen_fails _ _ _ refl refl refl
    (fails_made size_of _
    (in_back (good_at sign.Sizeof) good_sized refl refl refl
    (takes_at sign.Sizeof _ _ _ _ c.in_ok-token.ensures.ok.0 c.in_ok-token.ensures.ok.1)
    (fails_unmade good_sized (λ (v : Sized). size_of (c.in_ok-token.token.now.at, v)) refl _
    c.in_err-size.ensures.err)))))

pub returns-clause-ok : goal.returns-clause-ok
returns-clause-ok c = takes_as _
    (takes_unmade good_sized (λ (v : Sized). size_of (c.in_ok-token.token.now.at, v)) c.in_ok-size.ensures.ok).1
    (takes_same same_size
    (widen_takes _ _ refl refl
    (takes_made size_of
    (pair (good_at sign.Sizeof) good_sized refl
    (takes_at sign.Sizeof _ _ _ _ c.in_ok-token.ensures.ok.0 c.in_ok-token.ensures.ok.1)
    (takes_unmade good_sized (λ (v : Sized). size_of (c.in_ok-token.token.now.at, v)) c.in_ok-size.ensures.ok).2))))
