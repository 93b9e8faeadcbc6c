use Rattle.std.proofs.Common.{refl}
use Rattle.c_ast.specs.declared.statements.First.TheVariants as first'
use Rattle.c_grammar.specs.words.Faults.Fails.{no_memory}
use Rattle.c_reader.specs.Bounds.{Stops}
use Rattle.c_statements.specs.Shapes.{read_first_declare}
use Rattle.c_grammar.proofs.Parts.{takes_made, fails_made}
use Rattle.c_grammar.proofs.Sequences.{takes_as}
use Rattle.c_grammar.proofs.Steps.{passed, widen_takes, widen_fails}
use Rattle.c_statements.proofs.loops.first_declare.Goals as goal

pub returns-in_err-declare-clause-err : goal.returns-in_err-declare-clause-err
returns-in_err-declare-clause-err c =
    passed c.from_residual.result (Stops read_first_declare c.args.bounds.now c.args.left.now) c.from_residual.ensures.1
    (widen_fails _ _ _ refl refl refl (fails_made first'.Declare _ c.in_err-declare.ensures.err))

pub returns-in_err-boxed-clause-err : goal.returns-in_err-boxed-clause-err
returns-in_err-boxed-clause-err c =
    passed c.from_residual-in_err-boxed.result (Stops read_first_declare c.args.bounds.now c.args.left.now)
    c.from_residual-in_err-boxed.ensures.1 no_memory

pub returns-clause-ok : goal.returns-clause-ok
returns-clause-ok c = takes_as _ c.in_ok-boxed.ensures
    (widen_takes _ _ refl refl (takes_made first'.Declare c.in_ok-declare.ensures.ok))
