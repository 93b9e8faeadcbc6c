use Rattle.std.proofs.Common.{refl, inr}
use Rattle.c_ast.specs.declared.operands.Name.{Name}
use Rattle.c_lexer.specs.declared.token.Token.{Token}
use Rattle.c_grammar.specs.declared.signs.Sign.TheVariants as sign
use Rattle.c_grammar.specs.words.Parted.{Rest, pointer_item, struct_item_of}
use Rattle.c_reader.specs.Bounds.{Stops}
use Rattle.c_parser.specs.inner.Shapes.{read_star_rest}
use Rattle.c_grammar.proofs.ItemLeasts.{least_pointer_rest}
use Rattle.c_grammar.proofs.Goods.{good_one, good_name}
use Rattle.c_grammar.proofs.Items.{good_pointer_rest}
use Rattle.c_grammar.proofs.Leasts.{least_name}
use Rattle.c_grammar.proofs.Parts.{takes_made, fails_made, takes_token}
use Rattle.c_grammar.proofs.Sequences.{takes_as, least_pair, takes_unmade, fails_unmade}
use Rattle.c_grammar.proofs.Steps.{passed, pair, in_front, in_back, widen_takes, widen_fails, good_pair}
use Rattle.c_grammar.proofs.Tokens.{fails_one, takes_name, real}
use Rattle.c_parser.proofs.items.star_rest.Goals as goal

pub returns-in_err-rest-clause-err : goal.returns-in_err-rest-clause-err
returns-in_err-rest-clause-err c =
    passed c.from_residual.result (Stops (read_star_rest c.args.at c.args.shape) c.args.bounds.now c.args.left.now)
    c.from_residual.ensures.1
    (widen_fails _ _ _ refl refl refl
    (fails_made (λ (q : Token × (Name × Rest)). struct_item_of (c.args.at, (c.args.shape, inr q))) _
    (in_front (good_one sign.Star) (good_pair good_name good_pointer_rest refl) refl refl
    (least_pair good_name good_pointer_rest refl refl _ (least_name _) (least_pointer_rest _))
    (fails_one sign.Star (real sign.Star tt) _ _ _ _ c.in_err-rest.ensures.err.0 c.in_err-rest.ensures.err.1))))

pub returns-in_err-name-clause-err : goal.returns-in_err-name-clause-err
returns-in_err-name-clause-err c =
    passed c.from_residual-in_err-name.result (Stops (read_star_rest c.args.at c.args.shape) c.args.bounds.now
    c.args.left.now) c.from_residual-in_err-name.ensures.1
    (widen_fails _ _ _ refl refl refl
    (fails_made (λ (q : Token × (Name × Rest)). struct_item_of (c.args.at, (c.args.shape, inr q))) _
    (in_back (good_one sign.Star) (good_pair good_name good_pointer_rest refl) refl refl refl
    (takes_token sign.Star _ _ _ _ c.in_ok-rest.ensures.ok.0 c.in_ok-rest.ensures.ok.1)
    (in_front good_name good_pointer_rest refl refl (least_pointer_rest _) c.in_err-name.ensures.err))))

pub returns-in_err-item-clause-err : goal.returns-in_err-item-clause-err
returns-in_err-item-clause-err c =
    passed c.from_residual-in_err-item.result (Stops (read_star_rest c.args.at c.args.shape) c.args.bounds.now
    c.args.left.now) c.from_residual-in_err-item.ensures.1
    (widen_fails _ _ _ refl refl refl
    (fails_made (λ (q : Token × (Name × Rest)). struct_item_of (c.args.at, (c.args.shape, inr q))) _
    (in_back (good_one sign.Star) (good_pair good_name good_pointer_rest refl) refl refl refl
    (takes_token sign.Star _ _ _ _ c.in_ok-rest.ensures.ok.0 c.in_ok-rest.ensures.ok.1)
    (in_back good_name good_pointer_rest refl refl refl (takes_name _ _ _ _ c.in_ok-name.ensures.ok)
    (fails_unmade good_pointer_rest (λ (q : Rest). pointer_item c.args.at c.args.shape c.in_ok-name.name q) refl _
    c.in_err-item.ensures.err)))))

pub returns-clause-ok : goal.returns-clause-ok
returns-clause-ok c = takes_as _
    (takes_unmade good_pointer_rest (λ (q : Rest). pointer_item c.args.at c.args.shape c.in_ok-name.name q)
    c.in_ok-item.ensures.ok).1
    (widen_takes _ _ refl refl
    (takes_made (λ (q : Token × (Name × Rest)). struct_item_of (c.args.at, (c.args.shape, inr q)))
    (pair (good_one sign.Star) (good_pair good_name good_pointer_rest refl) refl
    (takes_token sign.Star _ _ _ _ c.in_ok-rest.ensures.ok.0 c.in_ok-rest.ensures.ok.1)
    (pair good_name good_pointer_rest refl (takes_name _ _ _ _ c.in_ok-name.ensures.ok)
    (takes_unmade good_pointer_rest (λ (q : Rest). pointer_item c.args.at c.args.shape c.in_ok-name.name q)
    c.in_ok-item.ensures.ok).2))))
