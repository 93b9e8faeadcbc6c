use Rattle.std.proofs.Common.{◌++◌, ◌∙◌, refl, ap, subst, inr}
use Rattle.c_ast.specs.declared.items.Item.TheVariants as item'
use Rattle.c_grammar.specs.declared.signs.Sign.TheVariants as sign
use Rattle.c_grammar.specs.words.Faults.Fails.{no_memory}
use Rattle.c_grammar.specs.words.Parted.{Declared}
use Rattle.c_grammar.specs.words.Sets.{no_sign}
use Rattle.c_reader.specs.Bounds.{Reads, Stops}
use Rattle.c_parser.specs.inner.Shapes.{declare_of, is_pointer, item_of, read_declared_names}
use Rattle.c_statements.specs.Shapes.{read_more_declarators, read_next_declarator}
use Rattle.c_grammar.proofs.Goods.{good_one}
use Rattle.c_grammar.proofs.Parts.{takes_made, fails_made, takes_token}
use Rattle.c_grammar.proofs.Repeats.{least_many}
use Rattle.c_grammar.proofs.Sequences.{takes_as, least_one, least_pair}
use Rattle.c_grammar.proofs.Statements.{good_maybe_from}
use Rattle.c_grammar.proofs.Steps.{passed, pair, in_front, in_back, widen_takes, widen_fails, good_pair}
use Rattle.c_grammar.proofs.Tokens.{fails_one, real}
use Rattle.c_statements.proofs.Declarators.{good_more_declarators}
use Rattle.c_parser.proofs.globals.declared_names.Goals as goal

pub returns-in_err-from-clause-err : goal.returns-in_err-from-clause-err
returns-in_err-from-clause-err c =
    passed c.from_residual.result (Stops (read_declared_names c.args.base c.args.name) c.args.bounds.now
    c.args.left.now) c.from_residual.ensures.1
    (widen_fails _ _ _ refl refl refl
    (fails_made (λ (r : Declared). item_of c.args.base c.args.name (inr r)) _
    (in_front good_maybe_from
    (good_pair (good_more_declarators (is_pointer c.args.base)) (good_one sign.Semicolon) refl) refl refl
    (least_pair (good_more_declarators (is_pointer c.args.base)) (good_one sign.Semicolon) refl refl _
    (least_many (read_next_declarator (is_pointer c.args.base)).rule no_sign _)
    (least_one sign.Semicolon (real sign.Semicolon tt) _)) c.in_err-from.ensures.err)))

pub returns-in_err-vars-clause-err : goal.returns-in_err-vars-clause-err
returns-in_err-vars-clause-err c =
    passed c.from_residual-in_err-vars.result (Stops (read_declared_names c.args.base c.args.name) c.args.bounds.now
    c.args.left.now) c.from_residual-in_err-vars.ensures.1 no_memory

pub returns-in_err-more-clause-err : goal.returns-in_err-more-clause-err
returns-in_err-more-clause-err c =
    passed c.from_residual-in_err-more.result (Stops (read_declared_names c.args.base c.args.name) c.args.bounds.now
    c.args.left.now) c.from_residual-in_err-more.ensures.1
    (widen_fails _ _ _ refl refl refl
    (fails_made (λ (r : Declared). item_of c.args.base c.args.name (inr r)) _
    (in_back good_maybe_from
    (good_pair (good_more_declarators (is_pointer c.args.base)) (good_one sign.Semicolon) refl) refl refl refl
    c.in_ok-from.ensures.ok
    (in_front (good_more_declarators (is_pointer c.args.base)) (good_one sign.Semicolon) refl refl
    (least_one sign.Semicolon (real sign.Semicolon tt) _)
    (subst (λ b. Stops (read_more_declarators b) c.args.bounds.now c.in_ok-from.rest.now c.in_err-more.field-0.0)
    c.is_pointer.ensures c.in_err-more.ensures.err)))))

pub returns-in_err-rest-clause-err : goal.returns-in_err-rest-clause-err
returns-in_err-rest-clause-err c =
    passed c.from_residual-in_err-rest.result (Stops (read_declared_names c.args.base c.args.name) c.args.bounds.now
    c.args.left.now) c.from_residual-in_err-rest.ensures.1
    (widen_fails _ _ _ refl refl refl
    (fails_made (λ (r : Declared). item_of c.args.base c.args.name (inr r)) _
    (in_back good_maybe_from
    (good_pair (good_more_declarators (is_pointer c.args.base)) (good_one sign.Semicolon) refl) refl refl refl
    c.in_ok-from.ensures.ok
    (in_back (good_more_declarators (is_pointer c.args.base)) (good_one sign.Semicolon) refl refl refl
    (subst (λ b. Reads (read_more_declarators b) c.args.bounds.now c.in_ok-from.rest.now c.in_ok-more.rest.now
    c.in_ok-more.more) c.is_pointer.ensures c.in_ok-more.ensures.ok)
    (fails_one sign.Semicolon (real sign.Semicolon tt) _ _ _ _ c.in_err-rest.ensures.err.0
    c.in_err-rest.ensures.err.1)))))

pub returns-in_err-append-clause-err : goal.returns-in_err-append-clause-err
returns-in_err-append-clause-err c =
    passed c.from_residual-in_err-append.result (Stops (read_declared_names c.args.base c.args.name) c.args.bounds.now
    c.args.left.now) c.from_residual-in_err-append.ensures.1 no_memory

pub returns-clause-ok : goal.returns-clause-ok
returns-clause-ok c = takes_as _
    (ap (λ d. item'.Declare d)
    (c.declare_of.ensures ∙ ap (λ l. declare_of c.args.base l)
    (c.in_ok-append.ensures.ok ∙ ap (λ l. l ++ c.in_ok-more.more) c.in_ok-vars.ensures)))
    (widen_takes _ _ refl refl
    (takes_made (λ (r : Declared). item_of c.args.base c.args.name (inr r))
    (pair good_maybe_from
    (good_pair (good_more_declarators (is_pointer c.args.base)) (good_one sign.Semicolon) refl) refl
    c.in_ok-from.ensures.ok
    (pair (good_more_declarators (is_pointer c.args.base)) (good_one sign.Semicolon) refl
    (subst (λ b. Reads (read_more_declarators b) c.args.bounds.now c.in_ok-from.rest.now c.in_ok-more.rest.now
    c.in_ok-more.more) c.is_pointer.ensures c.in_ok-more.ensures.ok)
    (takes_token sign.Semicolon _ _ _ _ c.in_ok-rest.ensures.ok.0 c.in_ok-rest.ensures.ok.1)))))
