use Rattle.std.proofs.Common.{List, refl, inl}
use Rattle.c_ast.specs.declared.operands.Operand.{Operand}
use Rattle.c_grammar.specs.words.Parted.{simple_word}
use Rattle.c_reader.specs.Bounds.{Stops}
use Rattle.c_simples.specs.Shapes.{read_called_simple}
use Rattle.c_grammar.proofs.Parts.{takes_made, fails_made}
use Rattle.c_grammar.proofs.Steps.{passed, widen_takes, widen_fails}
use Rattle.c_simples.proofs.simples.called_simple.Goals as goal

pub returns-in_err-operands-clause-err : goal.returns-in_err-operands-clause-err
returns-in_err-operands-clause-err c =
    passed c.from_residual.result (Stops (read_called_simple c.args.name) c.args.bounds.now c.args.left.now)
    c.from_residual.ensures.1
    (widen_fails _ _ _ refl refl refl
    (fails_made (λ (os : List Operand). simple_word (c.args.name, inl os)) _ c.in_err-operands.ensures.err))

pub returns-clause-ok : goal.returns-clause-ok
returns-clause-ok c = widen_takes _ _ refl refl
    (takes_made (λ (os : List Operand). simple_word (c.args.name, inl os)) c.in_ok-operands.ensures.ok)
