use Rattle.c_grammar.specs.words.Faults.Fails.{no_memory}
use Rattle.c_reader.specs.Bounds.{Stops}
use Rattle.c_grammar.specs.words.Shapes.{a_literal}
use Rattle.c_grammar.proofs.Literals.{takes_number, no_literal}
use Rattle.c_grammar.proofs.Steps.{passed}
use Rattle.c_operands.proofs.operands.number.Goals as goal

pub returns-in_err-token-clause-err : goal.returns-in_err-token-clause-err
returns-in_err-token-clause-err c =
    let f = c.in_err-token.ensures.err in
    passed c.from_residual.result (Stops a_literal c.args.bounds.now c.args.left.now) c.from_residual.ensures.1
    (no_literal _ _ _ _ f.0 c.requires.null c.requires.holds c.requires.fails f.1)

pub returns-in_err-text-clause-err : goal.returns-in_err-text-clause-err
returns-in_err-text-clause-err c =
    passed c.from_residual-in_err-text.result (Stops a_literal c.args.bounds.now c.args.left.now)
    c.from_residual-in_err-text.ensures.1 no_memory

pub returns-clause-ok : goal.returns-clause-ok
returns-clause-ok c = let t = c.in_ok-token.ensures.ok in takes_number _ _ _ _ t.0 _ t.1 c.in_ok-text.ensures
