use Rattle.std.proofs.Common.{Some, refl, sym, subst, ◌∙◌}
use Rattle.c_grammar.specs.Syntax as s
use Rattle.c_grammar.specs.declared.signs.Sign.TheVariants as sign
use Rattle.c_grammar.specs.words.Faults.{Takes, Fails}
use Rattle.c_grammar.specs.words.Parted.{no_block}
use Rattle.c_grammar.specs.words.Sets.{no_sign, elses}
use Rattle.c_reader.specs.Bounds.{Stops}
use Rattle.c_parser.specs.inner.Shapes.{read_ending}
use Rattle.c_grammar.proofs.Choices.{left_takes, right_takes, left_fails, right_fails}
use Rattle.c_grammar.proofs.Goods.{good_one}
use Rattle.c_grammar.proofs.Items.{good_block}
use Rattle.c_grammar.proofs.Parts.{takes_made, fails_made, takes_level, fails_level, good_made}
use Rattle.c_grammar.proofs.Statements.{good_inner_block}
use Rattle.c_grammar.proofs.Steps.{passed, widen_takes, widen_fails}
use Rattle.c_grammar.proofs.Tokens.{fails_token, reads_token, real}
use Rattle.c_parser.proofs.functions.ending.Goals as goal

pub returns-in_err-rest-clause-err : goal.returns-in_err-rest-clause-err
returns-in_err-rest-clause-err c =
    passed c.from_residual.result (Stops read_ending c.args.bounds.now c.args.left.now) c.from_residual.ensures.1
    (widen_fails _ _ _ refl refl refl
    (left_fails (good_made (good_one sign.Semicolon) no_block) (good_made good_block Some) refl refl
    (sym c.is_next.ensures ∙ c.if-is_next.true)
    (fails_made no_block _ (fails_token sign.Semicolon (real sign.Semicolon tt) c.in_err-rest.ensures.err))))

pub returns-then-is_next-clause-ok : goal.returns-then-is_next-clause-ok
returns-then-is_next-clause-ok c =
    widen_takes _ _ refl refl
    (left_takes (good_made (good_one sign.Semicolon) no_block) (good_made good_block Some) refl refl
    (sym c.is_next.ensures ∙ c.if-is_next.true)
    (takes_made no_block (reads_token sign.Semicolon c.in_ok-rest.ensures.ok)))

pub returns-in_err-block-clause-err : goal.returns-in_err-block-clause-err
returns-in_err-block-clause-err c =
    passed c.from_residual-in_err-block.result (Stops read_ending c.args.bounds.now c.args.left.now)
    c.from_residual-in_err-block.ensures.1
    (widen_fails _ _ _ refl refl refl
    (right_fails (good_made (good_one sign.Semicolon) no_block) (good_made good_block Some) refl refl refl
    (sym c.is_next.ensures ∙ c.if-is_next.false)
    (fails_made Some _
    (subst (λ m. Fails s.block no_sign elses no_sign m c.args.bounds.now.end c.args.left.now c.in_err-block.field-0.0)
    (sym c.deeper-inner.ensures.room)
    (fails_level good_inner_block _ _ _ _
    (subst
    (λ end. Fails s.inner_block no_sign elses no_sign c.deeper-inner.result.room end c.args.left.now
    c.in_err-block.field-0.0) c.deeper-inner.ensures.end c.in_err-block.ensures.err))))))

pub returns-clause-ok : goal.returns-clause-ok
returns-clause-ok c =
    widen_takes _ _ refl refl
    (right_takes (good_made (good_one sign.Semicolon) no_block) (good_made good_block Some) refl refl refl
    (sym c.is_next.ensures ∙ c.if-is_next.false)
    (takes_made Some
    (subst (λ m. Takes s.block no_sign elses m c.args.left.now c.in_ok-block.rest.now c.in_ok-block.block)
    (sym c.deeper-inner.ensures.room) (takes_level good_inner_block _ _ _ _ c.in_ok-block.ensures.ok))))
