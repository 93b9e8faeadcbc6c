use Rattle.std.proofs.Common.{refl, sym, ◌∙◌}
use Rattle.c_grammar.proofs.Carrying.{carried_ok, carried_err}
use Rattle.c_statements.proofs.Alternatives.{first_carries, second_carries}
use Rattle.c_statements.proofs.DeclareForms.{good_int_data, good_enum_data}
use Rattle.c_statements.proofs.declarations.data.Goals as goal

pub returns-then-is_next-clause-ok : goal.returns-then-is_next-clause-ok
returns-then-is_next-clause-ok c =
    carried_ok (first_carries good_int_data good_enum_data refl refl (sym c.is_next.ensures ∙ c.if-is_next.true))
    c.int_data.result (λ r. r.1.now) (λ r. r.0) c.int_data.ensures.ok

pub returns-then-is_next-clause-err : goal.returns-then-is_next-clause-err
returns-then-is_next-clause-err c =
    carried_err (first_carries good_int_data good_enum_data refl refl (sym c.is_next.ensures ∙ c.if-is_next.true))
    _ c.int_data.result c.int_data.ensures.err

pub returns-clause-ok : goal.returns-clause-ok
returns-clause-ok c =
    carried_ok (second_carries good_int_data good_enum_data refl refl (sym c.is_next.ensures ∙ c.if-is_next.false))
    c.enum_data.result (λ r. r.1.now) (λ r. r.0) c.enum_data.ensures.ok

pub returns-clause-err : goal.returns-clause-err
returns-clause-err c =
    carried_err (second_carries good_int_data good_enum_data refl refl (sym c.is_next.ensures ∙ c.if-is_next.false))
    _ c.enum_data.result c.enum_data.ensures.err
