use Rattle.std.proofs.Common.{List, sym, ◌∙◌, subst, true≢false}
use Rattle.ta_incl.specs.declared.found.Found.{Found}
use Rattle.ta_incl.proofs.Keeping.{Thinning, thin_start, thin_keep, thin_drop, thin_end}
use Rattle.ta_incl.proofs.thinning.thinned.Goals as goal

pub pairs-init : goal.pairs-init
pairs-init c = rw c.new-kept.ensures (thin_start c.args.order.now c.args.found c.requires.fresh)

pub pairs-preserved-in-Continue-1 : goal.pairs-preserved-in-Continue-1
pairs-preserved-in-Continue-1 c =
    let h = rw c.as_slice.ensures at c.has_cover.ensures in
    let t = subst (λ (rest : List Found). Thinning c.args.order.now c.args.found rest c.pairs.kept) c.in-Some.ensures
    c.pairs.invariant
    in
    rw c.in_ok-push.ensures.ok
    (thin_keep c.args.order.now c.args.found c.pop.new.self c.pairs.kept c.in-Some.pair t c.requires.same
    (λ k. true≢false (sym (h.1 k) ∙ c.if-not-has_cover.true)))

pub pairs-preserved : goal.pairs-preserved
pairs-preserved c =
    let h = rw c.as_slice.ensures at c.has_cover.ensures in
    let t = subst (λ (rest : List Found). Thinning c.args.order.now c.args.found rest c.pairs.kept) c.in-Some.ensures
    c.pairs.invariant
    in
    thin_drop c.args.order.now c.args.found c.pop.new.self c.pairs.kept c.in-Some.pair t (h.0 c.if-not-has_cover.false)

pub returns : goal.returns
returns c = thin_end c.args.order.now c.args.found c.pairs.kept
    (subst (λ (rest : List Found). Thinning c.args.order.now c.args.found rest c.pairs.kept) c.in_default.ensures.0
    c.pairs.invariant)
