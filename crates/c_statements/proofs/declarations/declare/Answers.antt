use Rattle.std.proofs.Common.{refl, sym, ◌∙◌}
use Rattle.c_grammar.proofs.Carrying.{carried_ok, carried_err}
use Rattle.c_statements.proofs.Alternatives.{first_carries, second_carries}
use Rattle.c_statements.proofs.DeclareForms.{good_pointer_declare, good_datum_declare}
use Rattle.c_statements.proofs.declarations.declare.Goals as goal

pub returns-then-is_next-clause-ok : goal.returns-then-is_next-clause-ok
returns-then-is_next-clause-ok c =
    carried_ok (first_carries good_pointer_declare good_datum_declare refl refl
    (sym c.is_next.ensures ∙ c.if-is_next.true)) c.pointer_declare.result (λ r. r.1.now) (λ r. r.0)
    c.pointer_declare.ensures.ok

pub returns-then-is_next-clause-err : goal.returns-then-is_next-clause-err
returns-then-is_next-clause-err c =
    carried_err (first_carries good_pointer_declare good_datum_declare refl refl
    (sym c.is_next.ensures ∙ c.if-is_next.true)) _ c.pointer_declare.result c.pointer_declare.ensures.err

pub returns-clause-ok : goal.returns-clause-ok
returns-clause-ok c =
    carried_ok (second_carries good_pointer_declare good_datum_declare refl refl
    (sym c.is_next.ensures ∙ c.if-is_next.false)) c.datum_declare.result (λ r. r.1.now) (λ r. r.0)
    c.datum_declare.ensures.ok

pub returns-clause-err : goal.returns-clause-err
returns-clause-err c =
    carried_err (second_carries good_pointer_declare good_datum_declare refl refl
    (sym c.is_next.ensures ∙ c.if-is_next.false)) _ c.datum_declare.result c.datum_declare.ensures.err
