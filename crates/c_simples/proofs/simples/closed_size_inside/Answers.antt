use Rattle.std.proofs.Common.{false, [], ◌∷◌, refl, inl}
use Rattle.c_grammar.specs.Syntax as s
use Rattle.c_grammar.specs.declared.signs.Sign.TheVariants as sign
use Rattle.c_grammar.specs.words.Parted.{Inside, inside_part, size_of}
use Rattle.c_grammar.specs.words.Sets.{among, opens, arrows, no_sign}
use Rattle.c_reader.specs.Bounds.{Stops}
use Rattle.c_simples.specs.Shapes.{read_closed_size_inside}
use Rattle.c_grammar.proofs.Closings.{Enclosed, closed, enclosed, outer_fails, inner_fails, end_fails, takes_enclosed}
use Rattle.c_grammar.proofs.Families.{one}
use Rattle.c_grammar.proofs.Goods.{good_one}
use Rattle.c_grammar.proofs.Leasts.{least_inside}
use Rattle.c_grammar.proofs.Parts.{takes_made, fails_made}
use Rattle.c_grammar.proofs.Sequences.{takes_as, takes_unmade, fails_unmade}
use Rattle.c_grammar.proofs.Statements.{good_inside}
use Rattle.c_grammar.proofs.Steps.{passed}
use Rattle.c_grammar.proofs.Tokens.{fails_token, reads_token, real}
use Rattle.c_simples.proofs.simples.closed_size_inside.Goals as goal

brackets : Enclosed (one sign.Open) opens (λ n. inside_part) (among (sign.Struct ∷ (sign.Star ∷ []))) arrows no_sign
    false sign.Close no_sign
brackets = enclosed (good_one sign.Open) (closed good_inside (real sign.Close tt) refl refl refl) least_inside refl refl
    refl refl

pub returns-in_err-rest-clause-err : goal.returns-in_err-rest-clause-err
returns-in_err-rest-clause-err c =
    passed c.from_residual.result (Stops (read_closed_size_inside c.args.at) c.args.bounds.now c.args.left.now)
    c.from_residual.ensures.1
    (fails_made (λ (i : Inside). size_of (c.args.at, inl i)) _
    (outer_fails brackets s.middle (fails_token sign.Open (real sign.Open tt) c.in_err-rest.ensures.err)))

pub returns-in_err-size-clause-err : goal.returns-in_err-size-clause-err
returns-in_err-size-clause-err c =
    passed c.from_residual-in_err-size.result (Stops (read_closed_size_inside c.args.at) c.args.bounds.now
    c.args.left.now) c.from_residual-in_err-size.ensures.1
    (fails_made (λ (i : Inside). size_of (c.args.at, inl i)) _
    (inner_fails brackets s.middle refl (reads_token sign.Open c.in_ok-rest.ensures.ok)
    (fails_unmade good_inside (λ (i : Inside). size_of (c.args.at, inl i)) refl _ c.in_err-size.ensures.err)))

pub returns-in_err-rest-2-clause-err : goal.returns-in_err-rest-2-clause-err
returns-in_err-rest-2-clause-err c =
    passed c.from_residual-in_err-rest-2.result (Stops (read_closed_size_inside c.args.at) c.args.bounds.now
    c.args.left.now) c.from_residual-in_err-rest-2.ensures.1
    (fails_made (λ (i : Inside). size_of (c.args.at, inl i)) _
    (end_fails brackets s.middle (reads_token sign.Open c.in_ok-rest.ensures.ok)
    (takes_unmade good_inside (λ (i : Inside). size_of (c.args.at, inl i)) c.in_ok-size.ensures.ok).2
    c.in_err-rest-2.ensures.err))

pub returns-clause-ok : goal.returns-clause-ok
returns-clause-ok c =
    let u = takes_unmade good_inside (λ (i : Inside). size_of (c.args.at, inl i)) c.in_ok-size.ensures.ok in
    takes_as _ u.1
    (takes_made (λ (i : Inside). size_of (c.args.at, inl i))
    (takes_enclosed brackets s.middle (reads_token sign.Open c.in_ok-rest.ensures.ok) u.2 c.in_ok-rest-2.ensures.ok))
