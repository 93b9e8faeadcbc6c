use Rattle.std.proofs.Common.{◌≡◌, true, subst, sym, ap, ◌∙◌}
use Rattle.std.specs.Option.{is_some}
use Rattle.ta_core.specs.inner.Sizes.{IsBest, size_at}
use Rattle.ta_core.proofs.Smaller.{best_first, best_new, best_old}
use Rattle.ta_core.proofs.smallest.better_root.Goals as goal

pub returns-then-is_some : goal.returns-then-is_some
returns-then-is_some c =
    let s : is_some (size_at c.args.sizes.now c.args.root) ≡ true = ap is_some (sym c.size_of.ensures)
    ∙ sym c.is_some.ensures ∙ c.if-is_some.true in
    λ done h. best_first c.args.sizes.now c.args.root done (subst (IsBest c.args.sizes.now done) c.in-None.is h) s

pub returns-then-less : goal.returns-then-less
returns-then-less c =
    let l = rw (c.size_of-in-Some.ensures, c.size_of-in-Some-2.ensures) at c.less.ensures in
    λ done h. best_new c.args.sizes.now c.args.root c.in-Some.old done
    (subst (IsBest c.args.sizes.now done) c.in-Some.is h) (sym l ∙ c.if-less.true)

pub returns-else-less : goal.returns-else-less
returns-else-less c =
    let l = rw (c.size_of-in-Some.ensures, c.size_of-in-Some-2.ensures) at c.less.ensures in
    λ done h. best_old c.args.sizes.now c.args.root c.in-Some.old done
    (subst (IsBest c.args.sizes.now done) c.in-Some.is h) (sym l ∙ c.if-less.false)
