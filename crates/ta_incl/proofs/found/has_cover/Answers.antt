use Rattle.std.proofs.Common.{List, refl, sym, ◌∙◌, subst, true≢false}
use Rattle.fore_base.proofs.ListLemmas.{in_at, take_item}
use Rattle.ta_incl.specs.declared.found.Found.{Found}
use Rattle.ta_incl.specs.inner.Founds.{IsCover, HasCover}
use Rattle.ta_incl.proofs.Places.{none_push}
use Rattle.ta_incl.proofs.found.has_cover.Goals as goal

pub returns-then-covers : goal.returns-then-covers
returns-then-covers c =
    let i = in_at c.args.found.now c.loop-other.other-index c.other-item.result c.loop-other-test.true c.other-item.is
    in
    (λ _. (c.other-item.result, i, c.covers.ensures.0 c.if-covers.true), λ _. refl)

pub loop-other-preserved : goal.loop-other-preserved
loop-other-preserved c =
    let e = take_item c.args.found.now c.loop-other.other-index c.other-item.result c.loop-other-test.true
    c.other-item.is in
    λ h. none_push
    (λ (f : Found). IsCover c.args.order.now f c.args.pair.now) _ c.other-item.result c.loop-other.invariant
    (λ k. true≢false (sym (c.covers.ensures.1 k) ∙ c.if-covers.false))
    (subst (λ (xs : List Found). HasCover c.args.order.now xs c.args.pair.now) e h)
