use Rattle.std.proofs.Common.{refl}
use Rattle.c_grammar.specs.words.Parted.{After, simple_word}
use Rattle.c_reader.specs.Bounds.{Stops}
use Rattle.c_simples.specs.Shapes.{read_word_simple}
use Rattle.c_grammar.proofs.Goods.{good_name}
use Rattle.c_grammar.proofs.Leasts.{least_after}
use Rattle.c_grammar.proofs.Parts.{takes_made, fails_made}
use Rattle.c_grammar.proofs.Sequences.{takes_as, takes_unmade, fails_unmade}
use Rattle.c_grammar.proofs.Statements.{good_after}
use Rattle.c_grammar.proofs.Steps.{passed, pair, in_front, in_back, widen_takes, widen_fails}
use Rattle.c_grammar.proofs.Tokens.{takes_name}
use Rattle.c_simples.proofs.simples.word_simple.Goals as goal

pub returns-in_err-name-clause-err : goal.returns-in_err-name-clause-err
returns-in_err-name-clause-err c =
    passed c.from_residual.result (Stops read_word_simple c.args.bounds.now c.args.left.now) c.from_residual.ensures.1
    (widen_fails _ _ _ refl refl refl
    (fails_made simple_word _ (in_front good_name good_after refl refl (least_after _) c.in_err-name.ensures.err)))

pub returns-in_err-simple-clause-err : goal.returns-in_err-simple-clause-err
returns-in_err-simple-clause-err c =
    passed c.from_residual-in_err-simple.result (Stops read_word_simple c.args.bounds.now c.args.left.now)
    c.from_residual-in_err-simple.ensures.1
    (widen_fails _ _ _ refl refl refl
    (fails_made simple_word _
    (in_back good_name good_after refl refl refl (takes_name _ _ _ _ c.in_ok-name.ensures.ok)
    (fails_unmade good_after (λ (a : After). simple_word (c.in_ok-name.name, a)) refl _
    c.in_err-simple.ensures.err))))

pub returns-clause-ok : goal.returns-clause-ok
returns-clause-ok c = takes_as _
    (takes_unmade good_after (λ (a : After). simple_word (c.in_ok-name.name, a)) c.in_ok-simple.ensures.ok).1
    (widen_takes _ _ refl refl
    (takes_made simple_word
    (pair good_name good_after refl (takes_name _ _ _ _ c.in_ok-name.ensures.ok)
    (takes_unmade good_after (λ (a : After). simple_word (c.in_ok-name.name, a)) c.in_ok-simple.ensures.ok).2)))
