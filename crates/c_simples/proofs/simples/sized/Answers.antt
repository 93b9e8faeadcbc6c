use Rattle.std.proofs.Common.{◌≡◌, ℕ, List, true, false, refl, sym, inl, ◌∙◌}
use Rattle.fore_base.specs.declared.place.Place.{Place}
use Rattle.c_ast.specs.declared.operands.Path.{Path}
use Rattle.c_ast.specs.declared.simples.Size.TheVariants as size'
use Rattle.c_lexer.specs.declared.token.Token.{Token}
use Rattle.c_grammar.specs.Signs.{sign_at}
use Rattle.c_grammar.specs.words.Parted.{Inside, Sized, size_of, stars}
use Rattle.c_grammar.specs.words.Sets.{no_sign, opens, arrows}
use Rattle.c_reader.specs.Bounds.{Stops}
use Rattle.c_simples.specs.Shapes.{read_closed_size_inside, read_sized, read_starred}
use Rattle.c_grammar.proofs.Carrying.{Carries, over, widened, same_carries, left_carries, right_carries, carry}
use Rattle.c_grammar.proofs.Carrying.{carry_fails, carried_ok, carried_err}
use Rattle.c_grammar.proofs.Choices.{same_fork}
use Rattle.c_grammar.proofs.Families.{made}
use Rattle.c_grammar.proofs.Parts.{takes_made, fails_made, good_made}
use Rattle.c_grammar.proofs.Rules.{Good}
use Rattle.c_grammar.proofs.Statements.{good_closed_inside, good_star_path}
use Rattle.c_grammar.proofs.Steps.{passed}
use Rattle.c_simples.proofs.simples.sized.Goals as goal

module _ (at : Place) where
  good_closed : Good (read_closed_size_inside at).rule opens no_sign no_sign false
  good_closed = good_made good_closed_inside (λ (i : Inside). size_of (at, inl i))

  good_starred : Good (made (λ (q : Place × Path). size'.Bare at q.0 q.1) read_starred.rule) stars arrows no_sign false
  good_starred = good_made good_star_path (λ (q : Place × Path). size'.Bare at q.0 q.1)

  at_open : {n : ℕ} {ts : List Token} → opens (sign_at ts) ≡ true
      → Carries (read_closed_size_inside at).rule no_sign no_sign (read_sized at).rule arrows no_sign n ts
  at_open here = over (left_carries good_closed good_starred refl refl here)
      (over (widened refl refl) (same_carries (same_fork (λ (v : Sized). size_of (at, v)))))

  at_star : {n : ℕ} {ts : List Token} → opens (sign_at ts) ≡ false
      → Carries (made (λ (q : Place × Path). size'.Bare at q.0 q.1) read_starred.rule) arrows no_sign
      (read_sized at).rule arrows no_sign n ts
  at_star other = over (right_carries good_closed good_starred refl refl refl other)
      (over (widened refl refl) (same_carries (same_fork (λ (v : Sized). size_of (at, v)))))

pub returns-then-is_next-clause-ok : goal.returns-then-is_next-clause-ok
returns-then-is_next-clause-ok c =
    carried_ok (at_open c.args.at (sym c.is_next.ensures ∙ c.if-is_next.true)) c.closed_size_inside.result
    (λ r. r.1.now) (λ r. r.0) c.closed_size_inside.ensures.ok

pub returns-then-is_next-clause-err : goal.returns-then-is_next-clause-err
returns-then-is_next-clause-err c =
    carried_err (at_open c.args.at (sym c.is_next.ensures ∙ c.if-is_next.true)) _ c.closed_size_inside.result
    c.closed_size_inside.ensures.err

pub returns-in_err-bare-clause-err : goal.returns-in_err-bare-clause-err
returns-in_err-bare-clause-err c =
    passed c.from_residual.result (Stops (read_sized c.args.at) c.args.bounds.now c.args.left.now)
    c.from_residual.ensures.1
    (carry_fails (at_star c.args.at (sym c.is_next.ensures ∙ c.if-is_next.false))
    (fails_made (λ (q : Place × Path). size'.Bare c.args.at q.0 q.1) _ c.in_err-bare.ensures.err))

pub returns-clause-ok : goal.returns-clause-ok
returns-clause-ok c = carry (at_star c.args.at (sym c.is_next.ensures ∙ c.if-is_next.false))
    (takes_made (λ (q : Place × Path). size'.Bare c.args.at q.0 q.1) c.in_ok-bare.ensures.ok)
