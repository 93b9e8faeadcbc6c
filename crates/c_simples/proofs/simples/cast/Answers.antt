use Rattle.std.proofs.Common.{ℕ, List, false, [], ◌∷◌, refl}
use Rattle.fore_base.specs.declared.place.Place.{Place}
use Rattle.c_ast.specs.declared.operands.Name.{Name}
use Rattle.c_lexer.specs.declared.token.Token.{Token}
use Rattle.c_grammar.specs.Grammar.{Rule}
use Rattle.c_grammar.specs.Syntax as s
use Rattle.c_grammar.specs.declared.fault.SyntaxFault.{SyntaxFault}
use Rattle.c_grammar.specs.declared.signs.Sign.TheVariants as sign
use Rattle.c_grammar.specs.words.Faults.{Alive, Fails, Takes}
use Rattle.c_grammar.specs.words.Parted.{stars}
use Rattle.c_grammar.specs.words.Sets.{among, names, no_sign}
use Rattle.c_reader.specs.Bounds.{Stops}
use Rattle.c_simples.specs.Shapes.{read_cast}
use Rattle.c_grammar.proofs.Closings.{Closed, closed, good_closed, least_closed, part_fails, close_fails, takes_closed}
use Rattle.c_grammar.proofs.Families.{both, one}
use Rattle.c_grammar.proofs.Goods.{named, good_one, good_at, good_name}
use Rattle.c_grammar.proofs.Leasts.{least_name}
use Rattle.c_grammar.proofs.Parts.{takes_made, fails_made}
use Rattle.c_grammar.proofs.Rules.{Good}
use Rattle.c_grammar.proofs.Sequences.{least_one, least_pair}
use Rattle.c_grammar.proofs.Steps.{passed, pair, in_front, in_back, widen_takes, widen_fails, good_pair}
use Rattle.c_grammar.proofs.Tokens.{fails_token, fails_at, reads_token, reads_at, takes_name, real}
use Rattle.c_simples.proofs.simples.cast.Goals as goal

-- what is left after each part
star : Closed (one sign.Star) stars no_sign no_sign false sign.Close
star = closed (good_one sign.Star) (real sign.Close tt) refl refl refl

abbrev after_struct : Rule (Name × (Token × Token))
after_struct = both (λ n. s.name) (both (one sign.Star) (one sign.Close))

good_after_struct : Good after_struct names no_sign no_sign false
good_after_struct = named names no_sign no_sign (good_pair good_name (good_closed star) refl) refl refl refl

abbrev after_open : Rule (Token × (Name × (Token × Token)))
after_open = both (one sign.Struct) after_struct

good_after_open : Good after_open (among (sign.Struct ∷ [])) no_sign no_sign false
good_after_open = named (among (sign.Struct ∷ [])) no_sign no_sign
    (good_pair (good_one sign.Struct) good_after_struct refl) refl refl refl

least_after_struct : (n : ℕ) → Alive after_struct no_sign n []
least_after_struct n = least_pair good_name (good_closed star) refl refl n (least_name n)
    (least_closed star n (least_one sign.Star (real sign.Star tt) n))

behind_open : {n : ℕ} {end : Place} {ts mid : List Token} {e : SyntaxFault} {p : Place}
    → Takes (λ n. s.at sign.Open) no_sign no_sign n ts mid p → Fails after_open no_sign no_sign no_sign n end mid e →
    Fails read_cast.rule no_sign no_sign no_sign n end ts e
behind_open t f = widen_fails no_sign no_sign no_sign refl refl refl
    (fails_made s.cast_of _ (in_back (good_at sign.Open) good_after_open refl refl refl t f))

behind_struct : {n : ℕ} {end : Place} {ts mid : List Token} {e : SyntaxFault} {t : Token}
    → Takes (one sign.Struct) no_sign no_sign n ts mid t → Fails after_struct no_sign no_sign no_sign n end mid e →
    Fails after_open no_sign no_sign no_sign n end ts e
behind_struct t f = in_back (good_one sign.Struct) good_after_struct refl refl refl t f

behind_name : {n : ℕ} {end : Place} {ts mid : List Token} {e : SyntaxFault} {x : Name}
    → Takes (λ n. s.name) no_sign no_sign n ts mid x →
    Fails (both (one sign.Star) (one sign.Close)) no_sign no_sign no_sign n end mid e →
    Fails after_struct no_sign no_sign no_sign n end ts e
behind_name t f = in_back good_name (good_closed star) refl refl refl t f

pub returns-in_err-token-clause-err : goal.returns-in_err-token-clause-err
returns-in_err-token-clause-err c =
    passed c.from_residual.result (Stops read_cast c.args.bounds.now c.args.left.now) c.from_residual.ensures.1
    (widen_fails _ _ _ refl refl refl
    (fails_made s.cast_of _
    (in_front (good_at sign.Open) good_after_open refl refl
    (least_pair (good_one sign.Struct) good_after_struct refl refl _ (least_one sign.Struct (real sign.Struct tt) _)
    (least_after_struct _)) (fails_at sign.Open (real sign.Open tt) c.in_err-token.ensures.err))))

pub returns-in_err-rest-clause-err : goal.returns-in_err-rest-clause-err
returns-in_err-rest-clause-err c =
    passed c.from_residual-in_err-rest.result (Stops read_cast c.args.bounds.now c.args.left.now)
    c.from_residual-in_err-rest.ensures.1
    (behind_open (reads_at sign.Open c.in_ok-token.ensures.ok)
    (in_front (good_one sign.Struct) good_after_struct refl refl (least_after_struct _)
    (fails_token sign.Struct (real sign.Struct tt) c.in_err-rest.ensures.err)))

pub returns-in_err-name-clause-err : goal.returns-in_err-name-clause-err
returns-in_err-name-clause-err c =
    passed c.from_residual-in_err-name.result (Stops read_cast c.args.bounds.now c.args.left.now)
    c.from_residual-in_err-name.ensures.1
    (behind_open (reads_at sign.Open c.in_ok-token.ensures.ok)
    (behind_struct (reads_token sign.Struct c.in_ok-rest.ensures.ok)
    (in_front good_name (good_closed star) refl refl
    (least_closed star _ (least_one sign.Star (real sign.Star tt) _)) c.in_err-name.ensures.err)))

pub returns-in_err-rest-2-clause-err : goal.returns-in_err-rest-2-clause-err
returns-in_err-rest-2-clause-err c =
    passed c.from_residual-in_err-rest-2.result (Stops read_cast c.args.bounds.now c.args.left.now)
    c.from_residual-in_err-rest-2.ensures.1
    (behind_open (reads_at sign.Open c.in_ok-token.ensures.ok)
    (behind_struct (reads_token sign.Struct c.in_ok-rest.ensures.ok)
    (behind_name (takes_name _ _ _ _ c.in_ok-name.ensures.ok)
    (part_fails star (fails_token sign.Star (real sign.Star tt) c.in_err-rest-2.ensures.err)))))

pub returns-in_err-rest-3-clause-err : goal.returns-in_err-rest-3-clause-err
returns-in_err-rest-3-clause-err c =
    passed c.from_residual-in_err-rest-3.result (Stops read_cast c.args.bounds.now c.args.left.now)
    c.from_residual-in_err-rest-3.ensures.1
    (behind_open (reads_at sign.Open c.in_ok-token.ensures.ok)
    (behind_struct (reads_token sign.Struct c.in_ok-rest.ensures.ok)
    (behind_name (takes_name _ _ _ _ c.in_ok-name.ensures.ok)
    (close_fails star (reads_token sign.Star c.in_ok-rest-2.ensures.ok) c.in_err-rest-3.ensures.err))))

pub returns-clause-ok : goal.returns-clause-ok
returns-clause-ok c = widen_takes _ _ refl refl
    (takes_made s.cast_of
    (pair (good_at sign.Open) good_after_open refl (reads_at sign.Open c.in_ok-token.ensures.ok)
    (pair (good_one sign.Struct) good_after_struct refl (reads_token sign.Struct c.in_ok-rest.ensures.ok)
    (pair good_name (good_closed star) refl (takes_name _ _ _ _ c.in_ok-name.ensures.ok)
    (takes_closed star (reads_token sign.Star c.in_ok-rest-2.ensures.ok) c.in_ok-rest-3.ensures.ok)))))
