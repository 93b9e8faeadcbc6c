use Rattle.std.proofs.Common.{false, refl, sym, ap, ◌∙◌}
use Rattle.c_ast.specs.declared.items.ReturnType.TheVariants as return'
use Rattle.c_grammar.specs.Items as i
use Rattle.c_grammar.specs.declared.signs.Sign.TheVariants as sign
use Rattle.c_grammar.specs.words.Parted.{begins_data}
use Rattle.c_grammar.specs.words.Sets.{no_sign}
use Rattle.c_reader.specs.Bounds.{Stops}
use Rattle.c_statements.specs.Shapes.{read_named}
use Rattle.c_parser.specs.inner.Shapes.{read_rtype}
use Rattle.c_grammar.proofs.Carrying.{carry, carry_fails}
use Rattle.c_grammar.proofs.Closings.{Closed, closed, part_fails, close_fails, takes_closed}
use Rattle.c_grammar.proofs.Heads.{apart, same_apart}
use Rattle.c_grammar.proofs.Parts.{takes_made, fails_made, takes_same, fails_same}
use Rattle.c_grammar.proofs.Steps.{passed, widen_takes, widen_fails}
use Rattle.c_grammar.proofs.Tokens.{fails_at, reads_at, real}
use Rattle.c_statements.proofs.Words.{good_named}
use Rattle.c_statements.proofs.Alternatives.Picks.{here, later, only}
use Rattle.c_parser.proofs.TypeForms.{structs, at_type}
use Rattle.c_parser.proofs.heads.rtype.Goals as goal

starred : Closed (read_named sign.Struct).rule structs no_sign no_sign false sign.Star
starred = closed (good_named sign.Struct) (real sign.Star tt) refl refl refl

pub returns-in_err-token-clause-err : goal.returns-in_err-token-clause-err
returns-in_err-token-clause-err c =
    passed c.from_residual.result (Stops read_rtype c.args.bounds.now c.args.left.now) c.from_residual.ensures.1
    (carry_fails (at_type (here (sym c.is_next.ensures ∙ c.if-is_next.true)))
    (fails_made return'.Void _ (fails_at sign.Void (real sign.Void tt) c.in_err-token.ensures.err)))

pub returns-then-is_next-clause-ok : goal.returns-then-is_next-clause-ok
returns-then-is_next-clause-ok c = carry (at_type (here (sym c.is_next.ensures ∙ c.if-is_next.true)))
    (takes_made return'.Void (reads_at sign.Void c.in_ok-token.ensures.ok))

pub returns-in_err-data-clause-err : goal.returns-in_err-data-clause-err
returns-in_err-data-clause-err c =
    passed c.from_residual-in_err-data.result (Stops read_rtype c.args.bounds.now c.args.left.now)
    c.from_residual-in_err-data.ensures.1
    (carry_fails (at_type (later (sym c.is_next.ensures ∙ c.if-is_next.false) (here (sym (ap
    (λ s. begins_data s) c.peek.ensures) ∙ sym c.begins_data.ensures ∙ c.if-begins_data.true))))
    (fails_made return'.Data _ c.in_err-data.ensures.err))

pub returns-then-begins_data-clause-ok : goal.returns-then-begins_data-clause-ok
returns-then-begins_data-clause-ok c =
    carry (at_type (later (sym c.is_next.ensures ∙ c.if-is_next.false) (here (sym (ap
    (λ s. begins_data s) c.peek.ensures) ∙ sym c.begins_data.ensures ∙ c.if-begins_data.true))))
    (takes_made return'.Data c.in_ok-data.ensures.ok)

pub returns-in_err-head-clause-err : goal.returns-in_err-head-clause-err
returns-in_err-head-clause-err c =
    passed c.from_residual-in_err-head.result (Stops read_rtype c.args.bounds.now c.args.left.now)
    c.from_residual-in_err-head.ensures.1
    (carry_fails (at_type (later (sym c.is_next.ensures ∙ c.if-is_next.false) (later (sym (ap
    (λ s. begins_data s) c.peek.ensures) ∙ sym c.begins_data.ensures ∙ c.if-begins_data.false) only)))
    (fails_same (same_apart i.return_pointer_of) _
    (widen_fails _ _ _ refl refl refl
    (fails_made (apart i.return_pointer_of) _ (part_fails starred c.in_err-head.ensures.err)))))

pub returns-in_err-rest-clause-err : goal.returns-in_err-rest-clause-err
returns-in_err-rest-clause-err c =
    passed c.from_residual-in_err-rest.result (Stops read_rtype c.args.bounds.now c.args.left.now)
    c.from_residual-in_err-rest.ensures.1
    (carry_fails (at_type (later (sym c.is_next.ensures ∙ c.if-is_next.false) (later (sym (ap
    (λ s. begins_data s) c.peek.ensures) ∙ sym c.begins_data.ensures ∙ c.if-begins_data.false) only)))
    (fails_same (same_apart i.return_pointer_of) _
    (widen_fails _ _ _ refl refl refl
    (fails_made (apart i.return_pointer_of) _
    (close_fails starred c.in_ok-head.ensures.ok c.in_err-rest.ensures.err)))))

pub returns-clause-ok : goal.returns-clause-ok
returns-clause-ok c =
    carry (at_type (later (sym c.is_next.ensures ∙ c.if-is_next.false) (later (sym (ap
    (λ s. begins_data s) c.peek.ensures) ∙ sym c.begins_data.ensures ∙ c.if-begins_data.false) only)))
    (takes_same (same_apart i.return_pointer_of)
    (widen_takes _ _ refl refl
    (takes_made (apart i.return_pointer_of)
    (takes_closed starred c.in_ok-head.ensures.ok c.in_ok-rest.ensures.ok))))
