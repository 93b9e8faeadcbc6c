-- The head of a `for`: what is left after each of its parts, and where that fails.
use Rattle.std.proofs.Common.{ℕ, Option, List, true, false, [], ◌∷◌, refl}
use Rattle.fore_base.specs.declared.place.Place.{Place}
use Rattle.c_ast.specs.declared.conditions.Cond.{Cond}
use Rattle.c_ast.specs.declared.simples.Simple.{Simple}
use Rattle.c_ast.specs.declared.statements.First.{First}
use Rattle.c_lexer.specs.declared.token.Token.{Token}
use Rattle.c_grammar.specs.Grammar.{Rule}
use Rattle.c_grammar.specs.Syntax as s
use Rattle.c_grammar.specs.declared.fault.SyntaxFault.{SyntaxFault}
use Rattle.c_grammar.specs.declared.signs.Sign.TheVariants as sign
use Rattle.c_grammar.specs.words.Faults.{Alive, Fails, Takes}
use Rattle.c_grammar.specs.words.Parted.{begins_first, for_head, for_head_of, simple_goes_on}
use Rattle.c_grammar.specs.words.Sets.{Signs, among, begins_cond, begins_simple, no_sign, opens}
use Rattle.c_statements.specs.Shapes.{read_first, read_maybe_cond, read_maybe_simple}
use Rattle.c_grammar.proofs.Closings.{Closed, closed, good_closed, least_closed}
use Rattle.c_grammar.proofs.Families.{both, one}
use Rattle.c_grammar.proofs.Firsts.{ends_first}
use Rattle.c_grammar.proofs.Goods.{named, good_one, good_at}
use Rattle.c_grammar.proofs.Leasts.{least_absent, least_first}
use Rattle.c_grammar.proofs.Parts.{fails_made}
use Rattle.c_grammar.proofs.Rules.{Good, first_both}
use Rattle.c_grammar.proofs.Sequences.{least_one, least_pair}
use Rattle.c_grammar.proofs.Statements.{good_first, good_maybe_cond, good_maybe_simple}
use Rattle.c_grammar.proofs.Steps.{good_pair, in_front, in_back, in_back_of, widen_fails}
use Rattle.c_grammar.proofs.Tokens.{real}

pub step : Closed read_maybe_simple.rule begins_simple simple_goes_on no_sign true sign.Close
step = closed good_maybe_simple (real sign.Close tt) refl refl refl

abbrev pub after_semicolon : Rule (Option Simple × Token)
after_semicolon = both read_maybe_simple.rule (one sign.Close)

pub good_after_semicolon : Good after_semicolon (first_both true begins_simple (among (sign.Close ∷ []))) no_sign
    no_sign false
good_after_semicolon = good_closed step

abbrev pub after_cond : Rule (Token × (Option Simple × Token))
after_cond = both (one sign.Semicolon) after_semicolon

pub good_after_cond : Good after_cond (among (sign.Semicolon ∷ [])) no_sign no_sign false
good_after_cond = named (among (sign.Semicolon ∷ [])) no_sign no_sign
    (good_pair (good_one sign.Semicolon) good_after_semicolon refl) refl refl refl

abbrev pub after_first : Rule (Option Cond × (Token × (Option Simple × Token)))
after_first = both read_maybe_cond.rule after_cond

abbrev pub begins_after_first : Signs
begins_after_first = first_both true begins_cond (among (sign.Semicolon ∷ []))

pub good_after_first : Good after_first begins_after_first no_sign no_sign false
good_after_first = good_pair good_maybe_cond good_after_cond refl

abbrev pub after_open : Rule (First × (Option Cond × (Token × (Option Simple × Token))))
after_open = both read_first.rule after_first

pub good_after_open : Good after_open begins_first no_sign no_sign false
good_after_open = named begins_first no_sign no_sign (good_pair good_first good_after_first refl) refl refl refl

abbrev pub after_for : Rule (Token × (First × (Option Cond × (Token × (Option Simple × Token)))))
after_for = both (one sign.Open) after_open

pub good_after_for : Good after_for opens no_sign no_sign false
good_after_for = named opens no_sign no_sign (good_pair (good_one sign.Open) good_after_open refl) refl refl refl

-- each reads something
least_after_semicolon : (n : ℕ) → Alive after_semicolon no_sign n []
least_after_semicolon n = least_closed step n (least_absent n)

least_after_cond : (n : ℕ) → Alive after_cond no_sign n []
least_after_cond n = least_pair (good_one sign.Semicolon) good_after_semicolon refl refl n
    (least_one sign.Semicolon (real sign.Semicolon tt) n) (least_after_semicolon n)

least_after_first : (n : ℕ) → Alive after_first no_sign n []
least_after_first n =
    least_pair good_maybe_cond good_after_cond refl refl n (least_absent n) (least_after_cond n)

least_after_open : (n : ℕ) → Alive after_open no_sign n []
least_after_open n = least_pair good_first good_after_first refl refl n (least_first n) (least_after_first n)

least_after_for : (n : ℕ) → Alive after_for no_sign n []
least_after_for n = least_pair (good_one sign.Open) good_after_open refl refl n
    (least_one sign.Open (real sign.Open tt) n) (least_after_open n)

-- a part fails, or what is left after it
module _ {n : ℕ} {end : Place} {ts : List Token} {e : SyntaxFault} where
  pub for_fails : Fails (λ n. s.at sign.For) no_sign no_sign no_sign n end ts e
      → Fails for_head no_sign no_sign no_sign n end ts e
  for_fails f = widen_fails no_sign no_sign no_sign refl refl refl
      (fails_made for_head_of _ (in_front (good_at sign.For) good_after_for refl refl (least_after_for n) f))

  pub open_fails : Fails (one sign.Open) no_sign no_sign no_sign n end ts e
      → Fails after_for no_sign no_sign no_sign n end ts e
  open_fails f = in_front (good_one sign.Open) good_after_open refl refl (least_after_open n) f

  pub first_fails : Fails read_first.rule no_sign no_sign no_sign n end ts e
      → Fails after_open no_sign no_sign no_sign n end ts e
  first_fails f = in_front good_first good_after_first refl refl (least_after_first n) f

  pub cond_fails : {ha : Signs} → Fails read_maybe_cond.rule read_maybe_cond.cont no_sign ha n end ts e
      → Fails after_first no_sign no_sign ha n end ts e
  cond_fails f = in_front good_maybe_cond good_after_cond refl refl (least_after_cond n) f

  pub semicolon_fails : Fails (one sign.Semicolon) no_sign no_sign no_sign n end ts e
      → Fails after_cond no_sign no_sign no_sign n end ts e
  semicolon_fails f = in_front (good_one sign.Semicolon) good_after_semicolon refl refl (least_after_semicolon n) f

  pub behind_for : {mid : List Token} {p : Place} → Takes (λ n. s.at sign.For) no_sign no_sign n ts mid p
      → Fails after_for no_sign no_sign no_sign n end mid e → Fails for_head no_sign no_sign no_sign n end ts e
  behind_for t f = widen_fails no_sign no_sign no_sign refl refl refl
      (fails_made for_head_of _ (in_back (good_at sign.For) good_after_for refl refl refl t f))

  pub behind_open : {mid : List Token} {t : Token} → Takes (one sign.Open) no_sign no_sign n ts mid t
      → Fails after_open no_sign no_sign no_sign n end mid e → Fails after_for no_sign no_sign no_sign n end ts e
  behind_open t f = in_back (good_one sign.Open) good_after_open refl refl refl t f

  pub behind_first : {ha : Signs} {mid : List Token} {x : First} → Takes read_first.rule no_sign no_sign n ts mid x
      → Fails after_first no_sign no_sign ha n end mid e → Fails after_open no_sign no_sign no_sign n end ts e
  behind_first t f = in_back_of good_first good_after_first refl refl ends_first refl t f

  pub behind_cond : {mid : List Token} {x : Option Cond}
      → Takes read_maybe_cond.rule read_maybe_cond.cont no_sign n ts mid x →
      Fails after_cond no_sign no_sign no_sign n end mid e → Fails after_first no_sign no_sign no_sign n end ts e
  behind_cond t f = in_back good_maybe_cond good_after_cond refl refl refl t f

  pub behind_semicolon : {mid : List Token} {t : Token} → Takes (one sign.Semicolon) no_sign no_sign n ts mid t
      → Fails after_semicolon no_sign no_sign no_sign n end mid e →
      Fails after_cond no_sign no_sign no_sign n end ts e
  behind_semicolon t f = in_back (good_one sign.Semicolon) good_after_semicolon refl refl refl t f
