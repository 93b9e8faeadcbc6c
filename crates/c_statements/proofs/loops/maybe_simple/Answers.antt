use Rattle.std.proofs.Common.{Some, None, refl, sym, ap, ◌∙◌}
use Rattle.c_grammar.specs.words.Sets.{no_sign, operand_goes_on, begins_simple}
use Rattle.c_grammar.specs.words.Faults.Fails.{no_memory}
use Rattle.c_reader.specs.Bounds.{Stops}
use Rattle.c_statements.specs.Shapes.{read_maybe_simple}
use Rattle.c_grammar.proofs.Choices.{left_takes, right_takes, left_fails}
use Rattle.c_grammar.proofs.Goods.{named}
use Rattle.c_grammar.proofs.Parts.{takes_made, fails_made, takes_nothing, good_made, good_nothing}
use Rattle.c_grammar.proofs.Sequences.{takes_as}
use Rattle.c_grammar.proofs.Statements.{good_simple}
use Rattle.c_grammar.proofs.Steps.{passed, widen_takes, widen_fails}
use Rattle.c_statements.proofs.loops.maybe_simple.Goals as goal

pub returns-in_err-simple-clause-err : goal.returns-in_err-simple-clause-err
returns-in_err-simple-clause-err c =
    passed c.from_residual.result (Stops read_maybe_simple c.args.bounds.now c.args.left.now) c.from_residual.ensures.1
    (widen_fails _ _ _ refl refl refl
    (left_fails (good_made (named begins_simple operand_goes_on no_sign good_simple refl refl refl) Some)
    (good_nothing None) refl refl
    (sym (ap (λ s. begins_simple s) c.peek.ensures) ∙ sym c.begins_simple.ensures ∙ c.if-begins_simple.true)
    (fails_made Some _ c.in_err-simple.ensures.err)))

pub returns-in_err-boxed-clause-err : goal.returns-in_err-boxed-clause-err
returns-in_err-boxed-clause-err c =
    passed c.from_residual-in_err-boxed.result (Stops read_maybe_simple c.args.bounds.now c.args.left.now)
    c.from_residual-in_err-boxed.ensures.1 no_memory

pub returns-then-begins_simple-clause-ok : goal.returns-then-begins_simple-clause-ok
returns-then-begins_simple-clause-ok c =
    takes_as _ (ap (λ b. Some b) c.in_ok-boxed.ensures)
    (widen_takes _ _ refl refl
    (left_takes (good_made (named begins_simple operand_goes_on no_sign good_simple refl refl refl) Some)
    (good_nothing None) refl refl
    (sym (ap (λ s. begins_simple s) c.peek.ensures) ∙ sym c.begins_simple.ensures ∙ c.if-begins_simple.true)
    (takes_made Some c.in_ok-simple.ensures.ok)))

pub returns-clause-ok : goal.returns-clause-ok
returns-clause-ok c = widen_takes _ _ refl refl
    (right_takes (good_made (named begins_simple operand_goes_on no_sign good_simple refl refl refl) Some)
    (good_nothing None) refl refl refl
    (sym (ap (λ s. begins_simple s) c.peek.ensures) ∙ sym c.begins_simple.ensures ∙ c.if-begins_simple.false)
    (takes_nothing None _ _))
