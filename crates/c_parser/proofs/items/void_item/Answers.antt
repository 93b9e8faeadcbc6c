use Rattle.std.proofs.Common.{refl}
use Rattle.c_grammar.specs.declared.signs.Sign.TheVariants as sign
use Rattle.c_grammar.specs.words.Parted.{void_of}
use Rattle.c_reader.specs.Bounds.{Stops}
use Rattle.c_parser.specs.inner.Shapes.{read_void_item}
use Rattle.c_grammar.proofs.ItemLeasts.{least_called}
use Rattle.c_grammar.proofs.Items.{good_called}
use Rattle.c_grammar.proofs.Steps.{passed}
use Rattle.c_grammar.proofs.Tokens.{real}
use Rattle.c_parser.proofs.NamedItems.{head_fails, rest_fails, rest_takes}
use Rattle.c_parser.proofs.items.void_item.Goals as goal

pub returns-in_err-head-clause-err : goal.returns-in_err-head-clause-err
returns-in_err-head-clause-err c =
    passed c.from_residual.result (Stops read_void_item c.args.bounds.now c.args.left.now) c.from_residual.ensures.1
    (head_fails sign.Void (real sign.Void tt) good_called refl void_of (least_called _) c.in_err-head.ensures.err)

pub returns-in_err-item-clause-err : goal.returns-in_err-item-clause-err
returns-in_err-item-clause-err c =
    passed c.from_residual-in_err-item.result (Stops read_void_item c.args.bounds.now c.args.left.now)
    c.from_residual-in_err-item.ensures.1
    (rest_fails sign.Void (real sign.Void tt) good_called refl void_of c.in_ok-head.ensures.ok
    c.in_err-item.ensures.err)

pub returns-clause-ok : goal.returns-clause-ok
returns-clause-ok c = rest_takes sign.Void (real sign.Void tt) good_called refl void_of c.in_ok-head.ensures.ok
    c.in_ok-item.ensures.ok
