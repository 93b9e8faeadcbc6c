use Rattle.std.proofs.Common.{refl}
use Rattle.c_grammar.specs.declared.signs.Sign.TheVariants as sign
use Rattle.c_grammar.specs.words.Parted.{for_head_of}
use Rattle.c_reader.specs.Bounds.{Stops}
use Rattle.c_statements.specs.Shapes.{read_for_head}
use Rattle.c_grammar.proofs.Closings.{part_fails, close_fails, takes_closed}
use Rattle.c_grammar.proofs.Goods.{good_one, good_at}
use Rattle.c_grammar.proofs.Parts.{takes_made}
use Rattle.c_grammar.proofs.Statements.{good_first, good_maybe_cond}
use Rattle.c_grammar.proofs.Steps.{passed, pair, widen_takes}
use Rattle.c_grammar.proofs.Tokens.{fails_token, fails_at, reads_token, reads_at, real}
use Rattle.c_statements.proofs.ForHead.{step, good_after_for, good_after_open, good_after_first, good_after_cond}
use Rattle.c_statements.proofs.ForHead.{good_after_semicolon, for_fails, open_fails, first_fails, cond_fails}
use Rattle.c_statements.proofs.ForHead.{semicolon_fails, behind_for, behind_open, behind_first, behind_cond}
use Rattle.c_statements.proofs.ForHead.{behind_semicolon}
use Rattle.c_statements.proofs.loops.for_head.Goals as goal

pub returns-in_err-token-clause-err : goal.returns-in_err-token-clause-err
returns-in_err-token-clause-err c =
    passed c.from_residual.result (Stops read_for_head c.args.bounds.now c.args.left.now) c.from_residual.ensures.1
    (for_fails (fails_at sign.For (real sign.For tt) c.in_err-token.ensures.err))

pub returns-in_err-rest-clause-err : goal.returns-in_err-rest-clause-err
returns-in_err-rest-clause-err c =
    passed c.from_residual-in_err-rest.result (Stops read_for_head c.args.bounds.now c.args.left.now)
    c.from_residual-in_err-rest.ensures.1
    (behind_for (reads_at sign.For c.in_ok-token.ensures.ok)
    (open_fails (fails_token sign.Open (real sign.Open tt) c.in_err-rest.ensures.err)))

pub returns-in_err-first-clause-err : goal.returns-in_err-first-clause-err
returns-in_err-first-clause-err c =
    passed c.from_residual-in_err-first.result (Stops read_for_head c.args.bounds.now c.args.left.now)
    c.from_residual-in_err-first.ensures.1
    (behind_for (reads_at sign.For c.in_ok-token.ensures.ok)
    (behind_open (reads_token sign.Open c.in_ok-rest.ensures.ok) (first_fails c.in_err-first.ensures.err)))

pub returns-in_err-cond-clause-err : goal.returns-in_err-cond-clause-err
returns-in_err-cond-clause-err c =
    passed c.from_residual-in_err-cond.result (Stops read_for_head c.args.bounds.now c.args.left.now)
    c.from_residual-in_err-cond.ensures.1
    (behind_for (reads_at sign.For c.in_ok-token.ensures.ok)
    (behind_open (reads_token sign.Open c.in_ok-rest.ensures.ok)
    (behind_first c.in_ok-first.ensures.ok (cond_fails c.in_err-cond.ensures.err))))

pub returns-in_err-rest-2-clause-err : goal.returns-in_err-rest-2-clause-err
returns-in_err-rest-2-clause-err c =
    passed c.from_residual-in_err-rest-2.result (Stops read_for_head c.args.bounds.now c.args.left.now)
    c.from_residual-in_err-rest-2.ensures.1
    (behind_for (reads_at sign.For c.in_ok-token.ensures.ok)
    (behind_open (reads_token sign.Open c.in_ok-rest.ensures.ok)
    (behind_first c.in_ok-first.ensures.ok
    (behind_cond c.in_ok-cond.ensures.ok
    (semicolon_fails (fails_token sign.Semicolon (real sign.Semicolon tt) c.in_err-rest-2.ensures.err))))))

pub returns-in_err-next-clause-err : goal.returns-in_err-next-clause-err
returns-in_err-next-clause-err c =
    passed c.from_residual-in_err-next.result (Stops read_for_head c.args.bounds.now c.args.left.now)
    c.from_residual-in_err-next.ensures.1
    (behind_for (reads_at sign.For c.in_ok-token.ensures.ok)
    (behind_open (reads_token sign.Open c.in_ok-rest.ensures.ok)
    (behind_first c.in_ok-first.ensures.ok
    (behind_cond c.in_ok-cond.ensures.ok
    (behind_semicolon (reads_token sign.Semicolon c.in_ok-rest-2.ensures.ok)
    (part_fails step c.in_err-next.ensures.err))))))

pub returns-in_err-rest-3-clause-err : goal.returns-in_err-rest-3-clause-err
returns-in_err-rest-3-clause-err c =
    passed c.from_residual-in_err-rest-3.result (Stops read_for_head c.args.bounds.now c.args.left.now)
    c.from_residual-in_err-rest-3.ensures.1
    (behind_for (reads_at sign.For c.in_ok-token.ensures.ok)
    (behind_open (reads_token sign.Open c.in_ok-rest.ensures.ok)
    (behind_first c.in_ok-first.ensures.ok
    (behind_cond c.in_ok-cond.ensures.ok
    (behind_semicolon (reads_token sign.Semicolon c.in_ok-rest-2.ensures.ok)
    (close_fails step c.in_ok-next.ensures.ok c.in_err-rest-3.ensures.err))))))

pub returns-clause-ok : goal.returns-clause-ok
returns-clause-ok c = widen_takes _ _ refl refl
    (takes_made for_head_of
    (pair (good_at sign.For) good_after_for refl (reads_at sign.For c.in_ok-token.ensures.ok)
    (pair (good_one sign.Open) good_after_open refl (reads_token sign.Open c.in_ok-rest.ensures.ok)
    (pair good_first good_after_first refl c.in_ok-first.ensures.ok
    (pair good_maybe_cond good_after_cond refl c.in_ok-cond.ensures.ok
    (pair (good_one sign.Semicolon) good_after_semicolon refl
    (reads_token sign.Semicolon c.in_ok-rest-2.ensures.ok)
    (takes_closed step c.in_ok-next.ensures.ok c.in_ok-rest-3.ensures.ok)))))))
