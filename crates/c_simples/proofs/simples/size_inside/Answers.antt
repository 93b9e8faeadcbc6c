use Rattle.std.proofs.Common.{◌≡◌, ℕ, List, true, false, [], ◌∷◌, refl, sym, inl, ◌∙◌}
use Rattle.fore_base.specs.declared.place.Place.{Place}
use Rattle.c_ast.specs.declared.operands.Name.{Name}
use Rattle.c_ast.specs.declared.operands.Path.{Path}
use Rattle.c_ast.specs.declared.simples.Size.TheVariants as size'
use Rattle.c_lexer.specs.declared.token.Token.{Token}
use Rattle.c_grammar.specs.Signs.{sign_at}
use Rattle.c_grammar.specs.declared.signs.Sign.TheVariants as sign
use Rattle.c_grammar.specs.words.Parted.{Inside, size_of, stars}
use Rattle.c_grammar.specs.words.Sets.{Signs, among, no_sign, arrows}
use Rattle.c_reader.specs.Bounds.{Stops}
use Rattle.c_simples.specs.Shapes.{read_size_inside, read_starred, read_struct_size}
use Rattle.c_grammar.proofs.Carrying.{Carries, over, widened, same_carries, left_carries, right_carries, carry}
use Rattle.c_grammar.proofs.Carrying.{carry_fails, carried_ok, carried_err}
use Rattle.c_grammar.proofs.Choices.{same_fork}
use Rattle.c_grammar.proofs.Families.{made}
use Rattle.c_grammar.proofs.Goods.{good_name, good_next}
use Rattle.c_grammar.proofs.Parts.{takes_made, fails_made, good_made}
use Rattle.c_grammar.proofs.Rules.{Good}
use Rattle.c_grammar.proofs.Statements.{good_star_path}
use Rattle.c_grammar.proofs.Steps.{passed}
use Rattle.c_simples.proofs.simples.size_inside.Goals as goal

abbrev structs : Signs
structs = among (sign.Struct ∷ [])

module _ (at : Place) where
  good_struct : Good (read_struct_size at).rule structs no_sign no_sign false
  good_struct = good_made (good_next sign.Struct good_name) (λ (x : Name). size'.Struct at x)

  good_starred : Good (made (λ (q : Place × Path). size'.Bracketed at q.0 q.1) read_starred.rule) stars arrows no_sign
      false
  good_starred = good_made good_star_path (λ (q : Place × Path). size'.Bracketed at q.0 q.1)

  at_struct : {n : ℕ} {ts : List Token} → structs (sign_at ts) ≡ true
      → Carries (read_struct_size at).rule no_sign no_sign (read_size_inside at).rule arrows no_sign n ts
  at_struct here = over (left_carries good_struct good_starred refl refl here)
      (over (widened refl refl) (same_carries (same_fork (λ (i : Inside). size_of (at, inl i)))))

  at_star : {n : ℕ} {ts : List Token} → structs (sign_at ts) ≡ false
      → Carries (made (λ (q : Place × Path). size'.Bracketed at q.0 q.1) read_starred.rule) arrows no_sign
      (read_size_inside at).rule arrows no_sign n ts
  at_star other = over (right_carries good_struct good_starred refl refl refl other)
      (over (widened refl refl) (same_carries (same_fork (λ (i : Inside). size_of (at, inl i)))))

pub returns-then-is_next-clause-ok : goal.returns-then-is_next-clause-ok
returns-then-is_next-clause-ok c =
    carried_ok (at_struct c.args.at (sym c.is_next.ensures ∙ c.if-is_next.true)) c.struct_size.result (λ r. r.1.now)
    (λ r. r.0) c.struct_size.ensures.ok

pub returns-then-is_next-clause-err : goal.returns-then-is_next-clause-err
returns-then-is_next-clause-err c =
    carried_err (at_struct c.args.at (sym c.is_next.ensures ∙ c.if-is_next.true)) _ c.struct_size.result
    c.struct_size.ensures.err

pub returns-in_err-inside-clause-err : goal.returns-in_err-inside-clause-err
returns-in_err-inside-clause-err c =
    passed c.from_residual.result (Stops (read_size_inside c.args.at) c.args.bounds.now c.args.left.now)
    c.from_residual.ensures.1
    (carry_fails (at_star c.args.at (sym c.is_next.ensures ∙ c.if-is_next.false))
    (fails_made (λ (q : Place × Path). size'.Bracketed c.args.at q.0 q.1) _ c.in_err-inside.ensures.err))

pub returns-clause-ok : goal.returns-clause-ok
returns-clause-ok c = carry (at_star c.args.at (sym c.is_next.ensures ∙ c.if-is_next.false))
    (takes_made (λ (q : Place × Path). size'.Bracketed c.args.at q.0 q.1) c.in_ok-inside.ensures.ok)
