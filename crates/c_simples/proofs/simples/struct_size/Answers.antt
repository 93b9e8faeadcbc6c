use Rattle.std.proofs.Common.{refl}
use Rattle.c_ast.specs.declared.operands.Name.{Name}
use Rattle.c_ast.specs.declared.simples.Size.TheVariants as size'
use Rattle.c_grammar.specs.declared.signs.Sign.TheVariants as sign
use Rattle.c_reader.specs.Bounds.{Stops}
use Rattle.c_simples.specs.Shapes.{read_struct_size}
use Rattle.c_grammar.proofs.Goods.{good_name}
use Rattle.c_grammar.proofs.Leasts.{least_name}
use Rattle.c_grammar.proofs.Parts.{takes_made, fails_made}
use Rattle.c_grammar.proofs.Series.{word_fails, behind_fails, takes_behind}
use Rattle.c_grammar.proofs.Steps.{passed}
use Rattle.c_grammar.proofs.Tokens.{takes_name}
use Rattle.c_simples.proofs.simples.struct_size.Goals as goal

pub returns-in_err-rest-clause-err : goal.returns-in_err-rest-clause-err
returns-in_err-rest-clause-err c =
    passed c.from_residual.result (Stops (read_struct_size c.args.at) c.args.bounds.now c.args.left.now)
    c.from_residual.ensures.1
    (fails_made (λ (x : Name). size'.Struct c.args.at x) _
    (word_fails sign.Struct refl good_name (least_name _) c.in_err-rest.ensures.err))

pub returns-in_err-name-clause-err : goal.returns-in_err-name-clause-err
returns-in_err-name-clause-err c =
    passed c.from_residual-in_err-name.result (Stops (read_struct_size c.args.at) c.args.bounds.now c.args.left.now)
    c.from_residual-in_err-name.ensures.1
    (fails_made (λ (x : Name). size'.Struct c.args.at x) _
    (behind_fails sign.Struct refl good_name c.in_ok-rest.ensures.ok c.in_err-name.ensures.err))

pub returns-clause-ok : goal.returns-clause-ok
returns-clause-ok c =
    takes_made (λ (x : Name). size'.Struct c.args.at x)
    (takes_behind sign.Struct refl good_name c.in_ok-rest.ensures.ok (takes_name _ _ _ _ c.in_ok-name.ensures.ok))
