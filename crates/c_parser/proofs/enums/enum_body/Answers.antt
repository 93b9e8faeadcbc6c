use Rattle.std.proofs.Common.{ℕ, List, Option, false, [], refl, ap, ◌∷◌, ◌++◌, ◌∙◌}
use Rattle.c_ast.specs.declared.items.Item.TheVariants as item'
use Rattle.c_ast.specs.declared.operands.Name.{Name}
use Rattle.c_lexer.specs.declared.token.Token.{Token}
use Rattle.c_grammar.specs.Grammar.{Rule}
use Rattle.c_grammar.specs.Items as i
use Rattle.c_grammar.specs.Syntax as s
use Rattle.c_grammar.specs.declared.signs.Sign.TheVariants as sign
use Rattle.c_grammar.specs.words.Faults.{Alive}
use Rattle.c_grammar.specs.words.Faults.Fails.{no_memory}
use Rattle.c_grammar.specs.words.Sets.{names, no_sign}
use Rattle.c_reader.specs.Bounds.{Stops}
use Rattle.c_parser.specs.inner.Shapes.{read_enum_body}
use Rattle.c_grammar.proofs.Closings.{Closed, closed, good_closed, least_closed, part_fails, close_fails, takes_closed}
use Rattle.c_grammar.proofs.Enumerators.{begins, written, good_written}
use Rattle.c_grammar.proofs.Families.{both, one}
use Rattle.c_grammar.proofs.Goods.{named, good_one, good_name}
use Rattle.c_grammar.proofs.ItemLeasts.{least_names}
use Rattle.c_grammar.proofs.Leasts.{least_name}
use Rattle.c_grammar.proofs.Parts.{takes_made, fails_made}
use Rattle.c_grammar.proofs.Rules.{Good}
use Rattle.c_grammar.proofs.Sequences.{takes_as, least_pair, takes_unmade, fails_unmade}
use Rattle.c_grammar.proofs.Steps.{passed, pair, in_front, in_back, widen_takes, widen_fails, good_pair}
use Rattle.c_grammar.proofs.Tokens.{fails_token, reads_token, takes_name, real}
use Rattle.c_parser.proofs.enums.enum_body.Goals as goal

-- what is left after the first name, and after the brace
later : Closed (λ n. written) begins no_sign no_sign false sign.Semicolon
later = closed good_written (real sign.Semicolon tt) refl refl refl

abbrev after_brace : Rule (Name × ((List Name × (Option Token × Token)) × Token))
after_brace = both (λ n. s.name) (both (λ n. written) (one sign.Semicolon))

good_after_brace : Good after_brace names no_sign no_sign false
good_after_brace = named names no_sign no_sign (good_pair good_name (good_closed later) refl) refl refl refl

least_later : (n : ℕ) → Alive (both (λ n. written) (one sign.Semicolon)) no_sign n []
least_later n = least_closed later n (least_names n)

pub returns-in_err-rest-clause-err : goal.returns-in_err-rest-clause-err
returns-in_err-rest-clause-err c =
    passed c.from_residual.result (Stops (read_enum_body c.args.at c.args.shape) c.args.bounds.now c.args.left.now)
    c.from_residual.ensures.1
    (widen_fails _ _ _ refl refl refl
    (fails_made (λ (q : i.Enumerated). i.enum_of (c.args.at, (c.args.shape, q))) _
    (in_front (good_one sign.OpenBrace) good_after_brace refl refl
    (least_pair good_name (good_closed later) refl refl _ (least_name _) (least_later _))
    (fails_token sign.OpenBrace (real sign.OpenBrace tt) c.in_err-rest.ensures.err))))

pub returns-in_err-first-clause-err : goal.returns-in_err-first-clause-err
returns-in_err-first-clause-err c =
    passed c.from_residual-in_err-first.result (Stops (read_enum_body c.args.at c.args.shape) c.args.bounds.now
    c.args.left.now) c.from_residual-in_err-first.ensures.1
    (widen_fails _ _ _ refl refl refl
    (fails_made (λ (q : i.Enumerated). i.enum_of (c.args.at, (c.args.shape, q))) _
    (in_back (good_one sign.OpenBrace) good_after_brace refl refl refl
    (reads_token sign.OpenBrace c.in_ok-rest.ensures.ok)
    (in_front good_name (good_closed later) refl refl (least_later _) c.in_err-first.ensures.err))))

pub returns-in_err-later-clause-err : goal.returns-in_err-later-clause-err
returns-in_err-later-clause-err c =
    passed c.from_residual-in_err-later.result (Stops (read_enum_body c.args.at c.args.shape) c.args.bounds.now
    c.args.left.now) c.from_residual-in_err-later.ensures.1
    (widen_fails _ _ _ refl refl refl
    (fails_made (λ (q : i.Enumerated). i.enum_of (c.args.at, (c.args.shape, q))) _
    (in_back (good_one sign.OpenBrace) good_after_brace refl refl refl
    (reads_token sign.OpenBrace c.in_ok-rest.ensures.ok)
    (in_back good_name (good_closed later) refl refl refl (takes_name _ _ _ _ c.in_ok-first.ensures.ok)
    (part_fails later (fails_unmade good_written s.first refl _ c.in_err-later.ensures.err))))))

pub returns-in_err-rest-2-clause-err : goal.returns-in_err-rest-2-clause-err
returns-in_err-rest-2-clause-err c =
    passed c.from_residual-in_err-rest-2.result (Stops (read_enum_body c.args.at c.args.shape) c.args.bounds.now
    c.args.left.now) c.from_residual-in_err-rest-2.ensures.1
    (widen_fails _ _ _ refl refl refl
    (fails_made (λ (q : i.Enumerated). i.enum_of (c.args.at, (c.args.shape, q))) _
    (in_back (good_one sign.OpenBrace) good_after_brace refl refl refl
    (reads_token sign.OpenBrace c.in_ok-rest.ensures.ok)
    (in_back good_name (good_closed later) refl refl refl (takes_name _ _ _ _ c.in_ok-first.ensures.ok)
    (close_fails later (takes_unmade good_written s.first c.in_ok-later.ensures.ok).2
    c.in_err-rest-2.ensures.err)))))

pub returns-in_err-values-clause-err : goal.returns-in_err-values-clause-err
returns-in_err-values-clause-err c =
    passed c.from_residual-in_err-values.result (Stops (read_enum_body c.args.at c.args.shape) c.args.bounds.now
    c.args.left.now) c.from_residual-in_err-values.ensures.1 no_memory

pub returns-in_err-append-clause-err : goal.returns-in_err-append-clause-err
returns-in_err-append-clause-err c =
    passed c.from_residual-in_err-append.result (Stops (read_enum_body c.args.at c.args.shape) c.args.bounds.now
    c.args.left.now) c.from_residual-in_err-append.ensures.1 no_memory

pub returns-clause-ok : goal.returns-clause-ok
returns-clause-ok c =
    let u = takes_unmade good_written s.first c.in_ok-later.ensures.ok in
    takes_as _
    (ap (λ l. item'.Enum c.args.at c.args.shape l)
    (c.in_ok-append.ensures.ok ∙ ap (λ l. l ++ c.in_ok-later.later) c.in_ok-values.ensures))
    (takes_as _ (ap (λ l. item'.Enum c.args.at c.args.shape (c.in_ok-first.first ∷ l)) u.1)
    (widen_takes _ _ refl refl
    (takes_made (λ (q : i.Enumerated). i.enum_of (c.args.at, (c.args.shape, q)))
    (pair (good_one sign.OpenBrace) good_after_brace refl (reads_token sign.OpenBrace c.in_ok-rest.ensures.ok)
    (pair good_name (good_closed later) refl (takes_name _ _ _ _ c.in_ok-first.ensures.ok)
    (takes_closed later u.2 c.in_ok-rest-2.ensures.ok))))))
