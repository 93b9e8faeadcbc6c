-- Items that begin with a word and a name: where the word, the name or what stands behind them fails, and what is read.
use Rattle.std.proofs.Common.{◌≢◌, ℕ, false, List, [], refl}
use Rattle.fore_base.specs.declared.place.Place.{Place}
use Rattle.c_ast.specs.declared.items.Item.{Item}
use Rattle.c_ast.specs.declared.operands.Name.{Name}
use Rattle.c_lexer.specs.declared.token.Token.{Token}
use Rattle.c_grammar.specs.Grammar.{Rule, ◌then◌, Made}
use Rattle.c_grammar.specs.Syntax.{at, name}
use Rattle.c_grammar.specs.declared.fault.SyntaxFault.{SyntaxFault}
use Rattle.c_grammar.specs.declared.signs.Sign.{Sign}
use Rattle.c_grammar.specs.declared.signs.Sign.TheVariants.{End}
use Rattle.c_grammar.specs.words.Faults.{Alive, Fails, Takes}
use Rattle.c_grammar.specs.words.Sets.{Signs, no_sign, elses}
use Rattle.c_statements.specs.Shapes.{read_named}
use Rattle.c_grammar.proofs.Families.{made}
use Rattle.c_grammar.proofs.Heads.{apart, same_apart}
use Rattle.c_grammar.proofs.Parts.{takes_made, fails_made, takes_same, fails_same}
use Rattle.c_grammar.proofs.Rules.{Good}
use Rattle.c_grammar.proofs.Sequences.{takes_as, takes_unmade, fails_unmade}
use Rattle.c_grammar.proofs.Steps.{Clear, pair, in_front, in_back, widen_takes, widen_fails}
use Rattle.c_statements.proofs.Words.{good_named, steady_behind}

module _ {X : Type 0} {R : Rule X} {fr : Signs} (word : Sign) (solid : word ≢ End)
    (good : Good R fr no_sign elses false) (clear : Clear no_sign fr) (f : Place × (Name × X) → Item) where
  pub head_fails : {n : ℕ} {end : Place} {ts : List Token} {e : SyntaxFault} → Alive R elses n []
      → Fails (read_named word).rule no_sign no_sign no_sign n end ts e →
      Fails (λ n. Made f (at word then name then R n)) no_sign elses no_sign n end ts e
  head_fails least h = fails_same (same_apart f) _
      (widen_fails no_sign elses no_sign refl refl refl
      (fails_made (apart f) _ (in_front (good_named word) good clear clear least h)))

  pub rest_fails : {n : ℕ} {end : Place} {ts mid : List Token} {p : Place × Name} {e : SyntaxFault}
      → Takes (read_named word).rule no_sign no_sign n ts mid p →
      Fails (made (λ x. f (p.0, (p.1, x))) R) no_sign elses no_sign n end mid e
      → Fails (λ n. Made f (at word then name then R n)) no_sign elses no_sign n end ts e
  rest_fails {p = p} t h = fails_same (same_apart f) _
      (widen_fails no_sign elses no_sign refl refl refl
      (fails_made (apart f) _
      (in_back (good_named word) good clear clear (steady_behind word solid) t
      (fails_unmade good (λ x. f (p.0, (p.1, x))) refl _ h))))

  pub rest_takes : {n : ℕ} {ts mid rest : List Token} {p : Place × Name} {y : Item}
      → Takes (read_named word).rule no_sign no_sign n ts mid p →
      Takes (made (λ x. f (p.0, (p.1, x))) R) no_sign elses n mid rest y
      → Takes (λ n. Made f (at word then name then R n)) no_sign elses n ts rest y
  rest_takes {p = p} t h = let u = takes_unmade good (λ x. f (p.0, (p.1, x))) h in
      takes_as _ u.1
      (takes_same (same_apart f)
      (widen_takes no_sign elses refl refl
      (takes_made (apart f) (pair (good_named word) good clear t u.2))))
