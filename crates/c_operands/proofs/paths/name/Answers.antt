use Rattle.std.proofs.Common.{ap, ◌≡◌, refl}
use Rattle.c_grammar.specs.words.Faults.Fails.{no_memory}
use Rattle.c_reader.specs.Bounds.{Stops}
use Rattle.c_grammar.specs.words.Shapes.{a_name}
use Rattle.c_grammar.specs.Signs.{sign_at}
use Rattle.c_grammar.specs.Syntax.{name_of}
use Rattle.c_grammar.specs.declared.fault.SyntaxFault.TheVariants.{Memory}
use Rattle.c_grammar.specs.declared.signs.Sign.TheVariants.{Id}
use Rattle.c_grammar.proofs.Parts.{fails_made}
use Rattle.c_grammar.proofs.Steps.{passed}
use Rattle.c_grammar.proofs.Tokens.{fails_one, id_real}
use Rattle.c_operands.proofs.paths.name.Goals as goal

pub returns-in_err-token-clause-err : goal.returns-in_err-token-clause-err
returns-in_err-token-clause-err c =
    let f = c.in_err-token.ensures.err in
    passed c.from_residual.result (Stops a_name c.args.bounds.now c.args.left.now) c.from_residual.ensures.1
    (fails_made name_of _ (fails_one Id id_real _ _ _ _ f.0 f.1))

pub returns-in_err-text-clause-err : goal.returns-in_err-text-clause-err
returns-in_err-text-clause-err c =
    passed c.from_residual-in_err-text.result (Stops a_name c.args.bounds.now c.args.left.now)
    c.from_residual-in_err-text.ensures.1 no_memory

pub returns-clause-ok : goal.returns-clause-ok
returns-clause-ok c =
    let t = c.in_ok-token.ensures.ok in (
      c.in_ok-token.token.now,
      t.0,
      t.1,
      ap (λ text. record { text = text; at = c.in_ok-token.token.now.at }) c.in_ok-text.ensures,
    )

pub returns-in_err-token-clause-named : goal.returns-in_err-token-clause-named
returns-in_err-token-clause-named c =
    let f = c.in_err-token.ensures.err in
    passed c.from_residual.result (λ e. sign_at c.args.left.now ≡ Id → e ≡ Memory) c.from_residual.ensures.1
    (λ h. absurd (f.1 h))

pub returns-in_err-text-clause-named : goal.returns-in_err-text-clause-named
returns-in_err-text-clause-named c =
    passed c.from_residual-in_err-text.result (λ e. sign_at c.args.left.now ≡ Id → e ≡ Memory)
    c.from_residual-in_err-text.ensures.1 (λ h. refl)
