use Rattle.std.proofs.Common.{◌∙◌, Some, ap, subst, sym}
use Rattle.fa_pool.specs.declared.kept.Kept.{Kept}
use Rattle.fix_core.specs.inner.Holding.{IsKeptIfThere}
use Rattle.fix_core.proofs.held.Held.keep_middle.Goals as goal

pub returns-in_ok-boxed-in-Some-clause-kept : goal.returns-in_ok-boxed-in-Some-clause-kept
returns-in_ok-boxed-in-Some-clause-kept c =
    let kept = c.in_ok-kept-in-Some.ensures.kept in
    subst (λ (k : Kept). IsKeptIfThere c.keep.new.self.pool c.args.state.now.middle (Some k))
    (sym c.in_ok-boxed-in-Some.ensures) (kept.0, ap (λ F. Some F) kept.1 ∙ sym c.in-Some.ensures.0)
