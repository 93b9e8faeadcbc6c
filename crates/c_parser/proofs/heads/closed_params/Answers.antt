use Rattle.std.proofs.Common.{true, refl}
use Rattle.c_grammar.specs.Items.{params}
use Rattle.c_grammar.specs.Syntax as s
use Rattle.c_grammar.specs.declared.signs.Sign.TheVariants as sign
use Rattle.c_grammar.specs.words.Parted.{begins_params, params_go_on}
use Rattle.c_grammar.specs.words.Sets.{opens, no_sign}
use Rattle.c_reader.specs.Bounds.{Stops}
use Rattle.c_parser.specs.inner.Shapes.{read_closed_params}
use Rattle.c_grammar.proofs.Closings.{Enclosed, closed, enclosed, outer_fails, inner_fails, end_fails, takes_enclosed}
use Rattle.c_grammar.proofs.Families.{one}
use Rattle.c_grammar.proofs.Goods.{good_one}
use Rattle.c_grammar.proofs.Items.{good_maybe_params}
use Rattle.c_grammar.proofs.Leasts.{least_absent}
use Rattle.c_grammar.proofs.Steps.{passed}
use Rattle.c_grammar.proofs.Tokens.{fails_token, reads_token, real}
use Rattle.c_parser.proofs.heads.closed_params.Goals as goal

brackets : Enclosed (one sign.Open) opens (λ n. s.optional params) begins_params params_go_on no_sign true sign.Close
    no_sign
brackets = enclosed (good_one sign.Open) (closed good_maybe_params (real sign.Close tt) refl refl refl) least_absent
    refl refl refl refl

pub returns-in_err-rest-clause-err : goal.returns-in_err-rest-clause-err
returns-in_err-rest-clause-err c =
    passed c.from_residual.result (Stops read_closed_params c.args.bounds.now c.args.left.now) c.from_residual.ensures.1
    (outer_fails brackets s.middle (fails_token sign.Open (real sign.Open tt) c.in_err-rest.ensures.err))

pub returns-in_err-params-clause-err : goal.returns-in_err-params-clause-err
returns-in_err-params-clause-err c =
    passed c.from_residual-in_err-params.result (Stops read_closed_params c.args.bounds.now c.args.left.now)
    c.from_residual-in_err-params.ensures.1
    (inner_fails brackets s.middle refl (reads_token sign.Open c.in_ok-rest.ensures.ok) c.in_err-params.ensures.err)

pub returns-in_err-rest-2-clause-err : goal.returns-in_err-rest-2-clause-err
returns-in_err-rest-2-clause-err c =
    passed c.from_residual-in_err-rest-2.result (Stops read_closed_params c.args.bounds.now c.args.left.now)
    c.from_residual-in_err-rest-2.ensures.1
    (end_fails brackets s.middle (reads_token sign.Open c.in_ok-rest.ensures.ok) c.in_ok-params.ensures.ok
    c.in_err-rest-2.ensures.err)

pub returns-clause-ok : goal.returns-clause-ok
returns-clause-ok c = takes_enclosed brackets s.middle (reads_token sign.Open c.in_ok-rest.ensures.ok)
    c.in_ok-params.ensures.ok c.in_ok-rest-2.ensures.ok
