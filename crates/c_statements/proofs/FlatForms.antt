-- The alternatives of a statement that is no level.
use Rattle.std.proofs.Common.{ℕ, false, List, [], ◌∷◌, refl, ap}
use Rattle.fore_base.specs.declared.place.Place.{Place}
use Rattle.c_ast.specs.declared.statements.Stmt.{Stmt}
use Rattle.c_ast.specs.declared.statements.Stmt.TheVariants as stmt'
use Rattle.c_lexer.specs.declared.token.Token.{Token}
use Rattle.c_grammar.specs.Grammar.{Rule, token, ◌then◌, Made}
use Rattle.c_grammar.specs.Signs.{sign_at}
use Rattle.c_grammar.specs.Syntax as s
use Rattle.c_grammar.specs.declared.fault.SyntaxFault.{SyntaxFault}
use Rattle.c_grammar.specs.declared.signs.Sign.{Sign}
use Rattle.c_grammar.specs.declared.signs.Sign.TheVariants as sign
use Rattle.c_grammar.specs.words.Faults.{Fails, Takes}
use Rattle.c_grammar.specs.words.Sets.{among, no_sign}
use Rattle.c_statements.specs.Shapes.{read_ended, read_flat}
use Rattle.c_grammar.proofs.Carrying.{Carries}
use Rattle.c_grammar.proofs.Goods.{good_one, good_at}
use Rattle.c_grammar.proofs.Parts.{takes_made, fails_made, good_made}
use Rattle.c_grammar.proofs.Rules.{Good}
use Rattle.c_grammar.proofs.Sequences.{takes_as, takes_unmade, fails_unmade}
use Rattle.c_grammar.proofs.Statements.{good_closed_cond, good_maybe_operand, good_simple}
use Rattle.c_grammar.proofs.Steps.{good_pair, good_chain}
use Rattle.c_statements.proofs.Alternatives.{Alternatives, Picks, picked}
use Rattle.c_statements.proofs.Alternatives.Alternatives.{last, before}

-- a word with a semicolon behind it, as a statement
abbrev pub word_stmt : Sign → (Place → Stmt) → Rule Stmt
word_stmt word f n = Made (λ (q : Place × Token). f q.0) (s.at word then token sign.Semicolon)

module _ (word : Sign) (f : Place → Stmt) where
  good_ended : Good (λ n. s.at word then token sign.Semicolon) (among (word ∷ [])) no_sign no_sign false
  good_ended = good_chain (good_at word) (good_one sign.Semicolon) refl

  pub good_word_stmt : Good (word_stmt word f) (among (word ∷ [])) no_sign no_sign false
  good_word_stmt = good_made good_ended (λ (q : Place × Token). f q.0)

  pub takes_word_stmt : {n : ℕ} {ts rest : List Token} {at : Place}
      → Takes (read_ended word).rule no_sign no_sign n ts rest at →
      Takes (word_stmt word f) no_sign no_sign n ts rest (f at)
  takes_word_stmt t = let u = takes_unmade good_ended s.first t in
      takes_as _ (ap f u.1) (takes_made (λ (q : Place × Token). f q.0) u.2)

  pub fails_word_stmt : {n : ℕ} {end : Place} {ts : List Token} {e : SyntaxFault}
      → Fails (read_ended word).rule no_sign no_sign no_sign n end ts e →
      Fails (word_stmt word f) no_sign no_sign no_sign n end ts e
  fails_word_stmt h = fails_made (λ (q : Place × Token). f q.0) _ (fails_unmade good_ended s.first refl _ h)

-- the alternatives, as the grammar has them one after another
abbrev pub flats : Alternatives Stmt no_sign
flats =
    before (good_made (good_at sign.Semicolon) stmt'.Empty)
    (before (good_made (good_chain good_simple (good_one sign.Semicolon) refl) s.simple_of)
    (before
    (good_made
    (good_chain (good_at sign.Return) (good_pair good_maybe_operand (good_one sign.Semicolon) refl) refl) s.return_of)
    (before (good_word_stmt sign.Break stmt'.Break)
    (before (good_word_stmt sign.Continue stmt'.Continue)
    (last
    (good_made
    (good_chain (good_at sign.Assert) (good_chain good_closed_cond (good_one sign.Semicolon) refl) refl)
    s.assert_of))))))

-- what the alternative reads that the next token begins, is read as such a statement
pub at_flat : {A : Rule Stmt} {n : ℕ} {ts : List Token} → Picks (sign_at ts) A flats
    → Carries A no_sign no_sign read_flat.rule no_sign no_sign n ts
at_flat p = picked refl flats refl p
