use Rattle.std.proofs.Common.{refl, sym, ◌∙◌}
use Rattle.c_grammar.proofs.Carrying.{carried_ok, carried_err}
use Rattle.c_statements.proofs.Alternatives.{first_carries, second_carries}
use Rattle.c_parser.proofs.FieldForms.{good_pointer_field, good_datum_field}
use Rattle.c_parser.proofs.fields.field.Goals as goal

pub returns-then-is_next-clause-ok : goal.returns-then-is_next-clause-ok
returns-then-is_next-clause-ok c =
    carried_ok (first_carries good_pointer_field good_datum_field refl refl (sym c.is_next.ensures ∙ c.if-is_next.true))
    c.pointer_field.result (λ r. r.1.now) (λ r. r.0) c.pointer_field.ensures.ok

pub returns-then-is_next-clause-err : goal.returns-then-is_next-clause-err
returns-then-is_next-clause-err c =
    carried_err (first_carries good_pointer_field good_datum_field refl refl
    (sym c.is_next.ensures ∙ c.if-is_next.true)) _ c.pointer_field.result c.pointer_field.ensures.err

pub returns-clause-ok : goal.returns-clause-ok
returns-clause-ok c =
    carried_ok (second_carries good_pointer_field good_datum_field refl refl
    (sym c.is_next.ensures ∙ c.if-is_next.false)) c.datum_field.result (λ r. r.1.now) (λ r. r.0)
    c.datum_field.ensures.ok

pub returns-clause-err : goal.returns-clause-err
returns-clause-err c =
    carried_err (second_carries good_pointer_field good_datum_field refl refl
    (sym c.is_next.ensures ∙ c.if-is_next.false)) _ c.datum_field.result c.datum_field.ensures.err
