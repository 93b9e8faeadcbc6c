use Rattle.std.proofs.Common.{false, [], ◌∷◌, refl}
use Rattle.c_grammar.specs.Items as i
use Rattle.c_grammar.specs.Syntax as s
use Rattle.c_grammar.specs.declared.signs.Sign.TheVariants as sign
use Rattle.c_grammar.specs.words.Parted.{begins_rtype, extern_of}
use Rattle.c_grammar.specs.words.Sets.{among, no_sign}
use Rattle.c_reader.specs.Bounds.{Stops}
use Rattle.c_parser.specs.inner.Shapes.{read_extern_item}
use Rattle.c_grammar.proofs.Closings.{Enclosed, closed, enclosed, outer_fails, inner_fails, end_fails, takes_enclosed}
use Rattle.c_grammar.proofs.Goods.{good_at}
use Rattle.c_grammar.proofs.ItemLeasts.{least_head}
use Rattle.c_grammar.proofs.Items.{good_head}
use Rattle.c_grammar.proofs.Steps.{passed}
use Rattle.c_grammar.proofs.Tokens.{fails_at, reads_at, real}
use Rattle.c_parser.proofs.items.extern_item.Goals as goal

ended : Enclosed (λ n. s.at sign.Extern) (among (sign.Extern ∷ [])) (λ n. i.head) begins_rtype no_sign no_sign false
    sign.Semicolon no_sign
ended = enclosed (good_at sign.Extern) (closed good_head (real sign.Semicolon tt) refl refl refl) least_head refl refl
    refl refl

pub returns-in_err-token-clause-err : goal.returns-in_err-token-clause-err
returns-in_err-token-clause-err c =
    passed c.from_residual.result (Stops read_extern_item c.args.bounds.now c.args.left.now) c.from_residual.ensures.1
    (outer_fails ended extern_of (fails_at sign.Extern (real sign.Extern tt) c.in_err-token.ensures.err))

pub returns-in_err-head-clause-err : goal.returns-in_err-head-clause-err
returns-in_err-head-clause-err c =
    passed c.from_residual-in_err-head.result (Stops read_extern_item c.args.bounds.now c.args.left.now)
    c.from_residual-in_err-head.ensures.1
    (inner_fails ended extern_of refl (reads_at sign.Extern c.in_ok-token.ensures.ok) c.in_err-head.ensures.err)

pub returns-in_err-after-clause-err : goal.returns-in_err-after-clause-err
returns-in_err-after-clause-err c =
    passed c.from_residual-in_err-after.result (Stops read_extern_item c.args.bounds.now c.args.left.now)
    c.from_residual-in_err-after.ensures.1
    (end_fails ended extern_of (reads_at sign.Extern c.in_ok-token.ensures.ok) c.in_ok-head.ensures.ok
    c.in_err-after.ensures.err)

pub returns-clause-ok : goal.returns-clause-ok
returns-clause-ok c = takes_enclosed ended extern_of (reads_at sign.Extern c.in_ok-token.ensures.ok)
    c.in_ok-head.ensures.ok c.in_ok-after.ensures.ok
