use Rattle.std.proofs.Common.{◌∙◌, sym}
use Rattle.c_reader.specs.Bounds.{Stops}
use Rattle.c_grammar.specs.words.Shapes.{two_sides}
use Rattle.c_grammar.proofs.Conditions.{no_sides, equal_there, unequal_there}
use Rattle.c_grammar.proofs.Steps.{passed}
use Rattle.c_operands.proofs.conditions.sides.Goals as goal

pub returns-then-is_next-clause-ok : goal.returns-then-is_next-clause-ok
returns-then-is_next-clause-ok c = let t = c.in_ok-rest.ensures.ok in equal_there _ _ _ _ t.0 t.1

pub returns-in_err-rest-2-clause-err : goal.returns-in_err-rest-2-clause-err
returns-in_err-rest-2-clause-err c =
    let f = c.in_err-rest-2.ensures.err in
    passed c.from_residual-in_err-rest-2.result (Stops two_sides c.args.bounds.now c.args.left.now)
    c.from_residual-in_err-rest-2.ensures.1
    (no_sides _ _ _ _ f.0 (sym c.is_next.ensures ∙ c.if-is_next.false) f.1)

pub returns-clause-ok : goal.returns-clause-ok
returns-clause-ok c = let t = c.in_ok-rest-2.ensures.ok in unequal_there _ _ _ _ t.0 t.1
