use Rattle.std.proofs.Common.{◌∙◌, sym, true≢false}
use Rattle.fore_base.proofs.ListLemmas.{paired_long}
use Rattle.fa_kept.specs.Memos.{IsWithinAt}
use Rattle.fa_kept.proofs.within.is_covered.Goals as goal

pub returns-then-not-look_alike-clause-exact : goal.returns-then-not-look_alike-clause-exact
returns-then-not-look_alike-clause-exact c = (
  (λ h. absurd (true≢false (sym h))),
  (λ k.
      absurd
      (true≢false (sym (c.look_alike.ensures.1 (
        k.vars,
        k.data_vars,
        paired_long (IsWithinAt c.args.pool.now) c.args.narrow.now.parts c.args.wide.now.parts k.within,
      ))
      ∙ c.if-not-look_alike.true))),
)
