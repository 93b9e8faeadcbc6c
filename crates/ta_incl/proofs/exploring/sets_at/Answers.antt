use Rattle.std.proofs.Common.{ℕ, List, sym, ap, subst, ◌∙◌}
use Rattle.std.proofs.lemmas.List.{take_more}
use Rattle.ta_incl.specs.declared.found.Found.{Found}
use Rattle.ta_incl.specs.inner.Founds.{AreAt}
use Rattle.ta_incl.proofs.Covering.{sets_push}
use Rattle.ta_incl.proofs.exploring.sets_at.Goals as goal

pub loop-place-preserved : goal.loop-place-preserved
loop-place-preserved c =
    let e = take_more c.args.places.now c.loop-place.place-index 0 c.loop-place-test.true in
    λ items a. c.in_ok-push.ensures.ok
    ∙ sets_push c.args.found.now _ _ c.loop-place.sets c.in_ok-set.set c.index-found-place.result
    c.loop-place.invariant c.index-found-place.is
    (c.in_ok-set.ensures ∙ ap (λ (f : Found). f.marks) (sym c.index-found-place.is)) items
    (subst (λ (is : List ℕ). AreAt c.args.found.now is items) e a)
