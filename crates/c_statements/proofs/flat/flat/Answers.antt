use Rattle.std.proofs.Common.{sym, ap, ◌∙◌}
use Rattle.c_ast.specs.declared.statements.Stmt.TheVariants as stmt'
use Rattle.c_grammar.specs.declared.signs.Sign.TheVariants as sign
use Rattle.c_grammar.specs.words.Sets.{begins_simple}
use Rattle.c_reader.specs.Bounds.{Stops}
use Rattle.c_statements.specs.Shapes.{read_flat}
use Rattle.c_grammar.proofs.Steps.{passed}
use Rattle.c_grammar.proofs.Carrying.{carry, carry_fails, carried_ok, carried_err}
use Rattle.c_statements.proofs.Alternatives.Picks.{here, later, only}
use Rattle.c_statements.proofs.FlatForms.{at_flat, takes_word_stmt, fails_word_stmt}
use Rattle.c_statements.proofs.flat.flat.Goals as goal

pub returns-then-is_next-clause-ok : goal.returns-then-is_next-clause-ok
returns-then-is_next-clause-ok c =
    carried_ok (at_flat (here (sym c.is_next.ensures ∙ c.if-is_next.true))) c.empty.result (λ r. r.1.now) (λ r. r.0)
    c.empty.ensures.ok

pub returns-then-is_next-clause-err : goal.returns-then-is_next-clause-err
returns-then-is_next-clause-err c =
    carried_err (at_flat (here (sym c.is_next.ensures ∙ c.if-is_next.true))) _ c.empty.result c.empty.ensures.err

pub returns-then-begins_simple-clause-ok : goal.returns-then-begins_simple-clause-ok
returns-then-begins_simple-clause-ok c =
    carried_ok (at_flat (later (sym c.is_next.ensures ∙ c.if-is_next.false) (here (sym (ap
    (λ s. begins_simple s) c.peek.ensures) ∙ sym c.begins_simple.ensures ∙ c.if-begins_simple.true))))
    c.simple_stmt.result (λ r. r.1.now) (λ r. r.0) c.simple_stmt.ensures.ok

pub returns-then-begins_simple-clause-err : goal.returns-then-begins_simple-clause-err
returns-then-begins_simple-clause-err c =
    carried_err (at_flat (later (sym c.is_next.ensures ∙ c.if-is_next.false) (here (sym (ap
    (λ s. begins_simple s) c.peek.ensures) ∙ sym c.begins_simple.ensures ∙ c.if-begins_simple.true))))
    _ c.simple_stmt.result c.simple_stmt.ensures.err

pub returns-then-is_next-2-clause-ok : goal.returns-then-is_next-2-clause-ok
returns-then-is_next-2-clause-ok c =
    carried_ok (at_flat (later (sym c.is_next.ensures ∙ c.if-is_next.false) (later (sym (ap
    (λ s. begins_simple s) c.peek.ensures) ∙ sym c.begins_simple.ensures ∙ c.if-begins_simple.false) (here
    (sym c.is_next-2.ensures ∙ c.if-is_next-2.true))))) c.return_stmt.result (λ r. r.1.now) (λ r. r.0)
    c.return_stmt.ensures.ok

pub returns-then-is_next-2-clause-err : goal.returns-then-is_next-2-clause-err
returns-then-is_next-2-clause-err c =
    carried_err (at_flat (later (sym c.is_next.ensures ∙ c.if-is_next.false) (later (sym (ap
    (λ s. begins_simple s) c.peek.ensures) ∙ sym c.begins_simple.ensures ∙ c.if-begins_simple.false) (here
    (sym c.is_next-2.ensures ∙ c.if-is_next-2.true))))) _ c.return_stmt.result c.return_stmt.ensures.err

pub returns-in_err-at-clause-err : goal.returns-in_err-at-clause-err
returns-in_err-at-clause-err c =
    passed c.from_residual.result (Stops read_flat c.args.bounds.now c.args.left.now) c.from_residual.ensures.1
    (carry_fails (at_flat (later (sym c.is_next.ensures ∙ c.if-is_next.false) (later (sym (ap
    (λ s. begins_simple s) c.peek.ensures) ∙ sym c.begins_simple.ensures ∙ c.if-begins_simple.false) (later
    (sym c.is_next-2.ensures ∙ c.if-is_next-2.false) (here (sym c.is_next-3.ensures ∙ c.if-is_next-3.true))))))
    (fails_word_stmt sign.Break stmt'.Break c.in_err-at.ensures.err))

pub returns-then-is_next-3-clause-ok : goal.returns-then-is_next-3-clause-ok
returns-then-is_next-3-clause-ok c =
    carry (at_flat (later (sym c.is_next.ensures ∙ c.if-is_next.false) (later (sym (ap
    (λ s. begins_simple s) c.peek.ensures) ∙ sym c.begins_simple.ensures ∙ c.if-begins_simple.false) (later
    (sym c.is_next-2.ensures ∙ c.if-is_next-2.false) (here (sym c.is_next-3.ensures ∙ c.if-is_next-3.true))))))
    (takes_word_stmt sign.Break stmt'.Break c.in_ok-at.ensures.ok)

pub returns-in_err-at-2-clause-err : goal.returns-in_err-at-2-clause-err
returns-in_err-at-2-clause-err c =
    passed c.from_residual-in_err-at-2.result (Stops read_flat c.args.bounds.now c.args.left.now)
    c.from_residual-in_err-at-2.ensures.1
    (carry_fails (at_flat (later (sym c.is_next.ensures ∙ c.if-is_next.false) (later (sym (ap
    (λ s. begins_simple s) c.peek.ensures) ∙ sym c.begins_simple.ensures ∙ c.if-begins_simple.false) (later
    (sym c.is_next-2.ensures ∙ c.if-is_next-2.false) (later (sym c.is_next-3.ensures ∙ c.if-is_next-3.false) (here
    (sym c.is_next-4.ensures ∙ c.if-is_next-4.true)))))))
    (fails_word_stmt sign.Continue stmt'.Continue c.in_err-at-2.ensures.err))

pub returns-then-is_next-4-clause-ok : goal.returns-then-is_next-4-clause-ok
returns-then-is_next-4-clause-ok c =
    carry (at_flat (later (sym c.is_next.ensures ∙ c.if-is_next.false) (later (sym (ap
    (λ s. begins_simple s) c.peek.ensures) ∙ sym c.begins_simple.ensures ∙ c.if-begins_simple.false) (later
    (sym c.is_next-2.ensures ∙ c.if-is_next-2.false) (later (sym c.is_next-3.ensures ∙ c.if-is_next-3.false) (here
    (sym c.is_next-4.ensures ∙ c.if-is_next-4.true)))))))
    (takes_word_stmt sign.Continue stmt'.Continue c.in_ok-at-2.ensures.ok)

pub returns-clause-ok : goal.returns-clause-ok
returns-clause-ok c =
    carried_ok (at_flat (later (sym c.is_next.ensures ∙ c.if-is_next.false) (later (sym (ap
    (λ s. begins_simple s) c.peek.ensures) ∙ sym c.begins_simple.ensures ∙ c.if-begins_simple.false) (later
    (sym c.is_next-2.ensures ∙ c.if-is_next-2.false) (later (sym c.is_next-3.ensures ∙ c.if-is_next-3.false) (later
    (sym c.is_next-4.ensures ∙ c.if-is_next-4.false) only)))))) c.assert_stmt.result (λ r. r.1.now) (λ r. r.0)
    c.assert_stmt.ensures.ok

pub returns-clause-err : goal.returns-clause-err
returns-clause-err c =
    carried_err (at_flat (later (sym c.is_next.ensures ∙ c.if-is_next.false) (later (sym (ap
    (λ s. begins_simple s) c.peek.ensures) ∙ sym c.begins_simple.ensures ∙ c.if-begins_simple.false) (later
    (sym c.is_next-2.ensures ∙ c.if-is_next-2.false) (later (sym c.is_next-3.ensures ∙ c.if-is_next-3.false) (later
    (sym c.is_next-4.ensures ∙ c.if-is_next-4.false) only)))))) _ c.assert_stmt.result c.assert_stmt.ensures.err
