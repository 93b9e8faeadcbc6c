use Rattle.std.proofs.Common.{refl, sym, ◌∙◌}
use Rattle.std.proofs.lemmas.Result.{IfOk-weaker, IfErr-weaker}
use Rattle.c_grammar.specs.words.Sets.{no_sign, elses}
use Rattle.c_reader.specs.Bounds.{Reads, Stops}
use Rattle.c_parser.specs.inner.Shapes.{read_extern_item, read_item}
use Rattle.c_grammar.proofs.Steps.{widen_takes, widen_fails}
use Rattle.c_grammar.proofs.Carrying.{carry, carry_fails, carried_ok, carried_err}
use Rattle.c_statements.proofs.Alternatives.Picks.{here, later, only}
use Rattle.c_parser.proofs.ItemKinds.{at_kind}
use Rattle.c_parser.proofs.items.item.Goals as goal

pub returns-then-is_next-clause-ok : goal.returns-then-is_next-clause-ok
returns-then-is_next-clause-ok c =
    IfOk-weaker c.extern_item.result (λ r. Reads read_extern_item c.args.bounds.now c.args.left.now r.1.now r.0)
    (λ r. Reads read_item c.args.bounds.now c.args.left.now r.1.now r.0)
    (λ r t. carry (at_kind (here (sym c.is_next.ensures ∙ c.if-is_next.true))) (widen_takes no_sign elses refl refl t))
    c.extern_item.ensures.ok

pub returns-then-is_next-clause-err : goal.returns-then-is_next-clause-err
returns-then-is_next-clause-err c =
    IfErr-weaker c.extern_item.result (Stops read_extern_item c.args.bounds.now c.args.left.now)
    (Stops read_item c.args.bounds.now c.args.left.now)
    (λ e f. carry_fails (at_kind (here (sym c.is_next.ensures ∙ c.if-is_next.true)))
    (widen_fails no_sign elses no_sign refl refl refl f)) c.extern_item.ensures.err

pub returns-then-is_next-2-clause-ok : goal.returns-then-is_next-2-clause-ok
returns-then-is_next-2-clause-ok c =
    carried_ok (at_kind (later (sym c.is_next.ensures ∙ c.if-is_next.false) (here
    (sym c.is_next-2.ensures ∙ c.if-is_next-2.true))))
    c.void_item.result (λ r. r.1.now) (λ r. r.0) c.void_item.ensures.ok

pub returns-then-is_next-2-clause-err : goal.returns-then-is_next-2-clause-err
returns-then-is_next-2-clause-err c =
    carried_err (at_kind (later (sym c.is_next.ensures ∙ c.if-is_next.false) (here
    (sym c.is_next-2.ensures ∙ c.if-is_next-2.true))))
    _ c.void_item.result c.void_item.ensures.err

pub returns-then-is_next-3-clause-ok : goal.returns-then-is_next-3-clause-ok
returns-then-is_next-3-clause-ok c =
    carried_ok (at_kind (later (sym c.is_next.ensures ∙ c.if-is_next.false) (later
    (sym c.is_next-2.ensures ∙ c.if-is_next-2.false) (here (sym c.is_next-3.ensures ∙ c.if-is_next-3.true)))))
    c.int_item.result (λ r. r.1.now) (λ r. r.0) c.int_item.ensures.ok

pub returns-then-is_next-3-clause-err : goal.returns-then-is_next-3-clause-err
returns-then-is_next-3-clause-err c =
    carried_err (at_kind (later (sym c.is_next.ensures ∙ c.if-is_next.false) (later
    (sym c.is_next-2.ensures ∙ c.if-is_next-2.false) (here (sym c.is_next-3.ensures ∙ c.if-is_next-3.true))))) _
    c.int_item.result c.int_item.ensures.err

pub returns-then-is_next-4-clause-ok : goal.returns-then-is_next-4-clause-ok
returns-then-is_next-4-clause-ok c =
    carried_ok (at_kind (later (sym c.is_next.ensures ∙ c.if-is_next.false) (later
    (sym c.is_next-2.ensures ∙ c.if-is_next-2.false) (later (sym c.is_next-3.ensures ∙ c.if-is_next-3.false) (here
    (sym c.is_next-4.ensures ∙ c.if-is_next-4.true)))))) c.enum_item.result
    (λ r. r.1.now) (λ r. r.0) c.enum_item.ensures.ok

pub returns-then-is_next-4-clause-err : goal.returns-then-is_next-4-clause-err
returns-then-is_next-4-clause-err c =
    carried_err (at_kind (later (sym c.is_next.ensures ∙ c.if-is_next.false) (later
    (sym c.is_next-2.ensures ∙ c.if-is_next-2.false) (later (sym c.is_next-3.ensures ∙ c.if-is_next-3.false) (here
    (sym c.is_next-4.ensures ∙ c.if-is_next-4.true)))))) _
    c.enum_item.result c.enum_item.ensures.err

pub returns-clause-ok : goal.returns-clause-ok
returns-clause-ok c =
    carried_ok (at_kind (later (sym c.is_next.ensures ∙ c.if-is_next.false) (later
    (sym c.is_next-2.ensures ∙ c.if-is_next-2.false) (later (sym c.is_next-3.ensures ∙ c.if-is_next-3.false) (later
    (sym c.is_next-4.ensures ∙ c.if-is_next-4.false) only)))))
    c.struct_item.result (λ r. r.1.now) (λ r. r.0) c.struct_item.ensures.ok

pub returns-clause-err : goal.returns-clause-err
returns-clause-err c =
    carried_err (at_kind (later (sym c.is_next.ensures ∙ c.if-is_next.false) (later
    (sym c.is_next-2.ensures ∙ c.if-is_next-2.false) (later (sym c.is_next-3.ensures ∙ c.if-is_next-3.false) (later
    (sym c.is_next-4.ensures ∙ c.if-is_next-4.false) only)))))
    _ c.struct_item.result c.struct_item.ensures.err
