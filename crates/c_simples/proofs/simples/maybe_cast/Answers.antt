use Rattle.std.proofs.Common.{Some, None, refl, sym, ◌∙◌, ◌∷◌, []}
use Rattle.c_grammar.specs.declared.signs.Sign.TheVariants as sign
use Rattle.c_grammar.specs.words.Sets.{among, no_sign}
use Rattle.c_reader.specs.Bounds.{Stops}
use Rattle.c_simples.specs.Shapes.{read_maybe_cast}
use Rattle.c_grammar.proofs.Choices.{left_takes, right_takes, left_fails}
use Rattle.c_grammar.proofs.Goods.{named}
use Rattle.c_grammar.proofs.Parts.{takes_made, fails_made, takes_nothing, good_made, good_nothing}
use Rattle.c_grammar.proofs.Statements.{good_cast}
use Rattle.c_grammar.proofs.Steps.{passed, widen_takes, widen_fails}
use Rattle.c_simples.proofs.simples.maybe_cast.Goals as goal

pub returns-in_err-cast-clause-err : goal.returns-in_err-cast-clause-err
returns-in_err-cast-clause-err c =
    passed c.from_residual.result (Stops read_maybe_cast c.args.bounds.now c.args.left.now) c.from_residual.ensures.1
    (widen_fails _ _ _ refl refl refl
    (left_fails (good_made (named (among (sign.Open ∷ [])) no_sign no_sign good_cast refl refl refl) Some)
    (good_nothing None) refl refl (sym c.is_next.ensures ∙ c.if-is_next.true)
    (fails_made Some _ c.in_err-cast.ensures.err)))

pub returns-then-is_next-clause-ok : goal.returns-then-is_next-clause-ok
returns-then-is_next-clause-ok c =
    widen_takes _ _ refl refl
    (left_takes (good_made (named (among (sign.Open ∷ [])) no_sign no_sign good_cast refl refl refl) Some)
    (good_nothing None) refl refl (sym c.is_next.ensures ∙ c.if-is_next.true) (takes_made Some c.in_ok-cast.ensures.ok))

pub returns-clause-ok : goal.returns-clause-ok
returns-clause-ok c = widen_takes _ _ refl refl
    (right_takes (good_made (named (among (sign.Open ∷ [])) no_sign no_sign good_cast refl refl refl) Some)
    (good_nothing None) refl refl refl (sym c.is_next.ensures ∙ c.if-is_next.false) (takes_nothing None _ _))
