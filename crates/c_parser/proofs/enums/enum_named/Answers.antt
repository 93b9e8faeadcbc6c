use Rattle.std.proofs.Common.{refl, inr}
use Rattle.c_ast.specs.declared.operands.Name.{Name}
use Rattle.c_ast.specs.declared.statements.Data.TheVariants as data'
use Rattle.c_grammar.specs.words.Parted.{Rest, data_item, enum_item_of}
use Rattle.c_reader.specs.Bounds.{Stops}
use Rattle.c_parser.specs.inner.Shapes.{read_enum_named}
use Rattle.c_grammar.proofs.ItemLeasts.{least_data_rest}
use Rattle.c_grammar.proofs.Goods.{good_name}
use Rattle.c_grammar.proofs.Items.{good_data_rest}
use Rattle.c_grammar.proofs.Parts.{takes_made, fails_made}
use Rattle.c_grammar.proofs.Sequences.{takes_as, takes_unmade, fails_unmade}
use Rattle.c_grammar.proofs.Steps.{passed, pair, in_front, in_back, widen_takes, widen_fails}
use Rattle.c_grammar.proofs.Tokens.{takes_name}
use Rattle.c_parser.proofs.enums.enum_named.Goals as goal

pub returns-in_err-name-clause-err : goal.returns-in_err-name-clause-err
returns-in_err-name-clause-err c =
    passed c.from_residual.result (Stops (read_enum_named c.args.at c.args.shape) c.args.bounds.now c.args.left.now)
    c.from_residual.ensures.1
    (widen_fails _ _ _ refl refl refl
    (fails_made (λ (q : Name × Rest). enum_item_of (c.args.at, (c.args.shape, inr q))) _
    (in_front good_name good_data_rest refl refl (least_data_rest _) c.in_err-name.ensures.err)))

pub returns-in_err-item-clause-err : goal.returns-in_err-item-clause-err
returns-in_err-item-clause-err c =
    passed c.from_residual-in_err-item.result (Stops (read_enum_named c.args.at c.args.shape) c.args.bounds.now
    c.args.left.now) c.from_residual-in_err-item.ensures.1
    (widen_fails _ _ _ refl refl refl
    (fails_made (λ (q : Name × Rest). enum_item_of (c.args.at, (c.args.shape, inr q))) _
    (in_back good_name good_data_rest refl refl refl (takes_name _ _ _ _ c.in_ok-name.ensures.ok)
    (fails_unmade good_data_rest (λ (q : Rest). data_item (data'.Enum c.args.at c.args.shape) c.in_ok-name.name q)
    refl _ c.in_err-item.ensures.err))))

pub returns-clause-ok : goal.returns-clause-ok
returns-clause-ok c = takes_as _
    (takes_unmade good_data_rest (λ (q : Rest). data_item (data'.Enum c.args.at c.args.shape) c.in_ok-name.name q)
    c.in_ok-item.ensures.ok).1
    (widen_takes _ _ refl refl
    (takes_made (λ (q : Name × Rest). enum_item_of (c.args.at, (c.args.shape, inr q)))
    (pair good_name good_data_rest refl (takes_name _ _ _ _ c.in_ok-name.ensures.ok)
    (takes_unmade good_data_rest (λ (q : Rest). data_item (data'.Enum c.args.at c.args.shape) c.in_ok-name.name q)
    c.in_ok-item.ensures.ok).2)))
