use Rattle.std.proofs.Common.{◌∙◌, sym, true≢false}
use Rattle.fore_base.proofs.ListLemmas.{paired_weaker}
use Rattle.ta_core.specs.Language.{IsWithin}
use Rattle.fa_cover.specs.inner.Tops.{KeepsTops}
use Rattle.fa_cover.proofs.Symbols.{within_keeps}
use Rattle.fa_cover.proofs.components.are_within.Goals as goal

pub returns-then-not-branch : goal.returns-then-not-branch
returns-then-not-branch c =
    let kept = c.in_ok-keep_tops.ensures in (
      (λ h. absurd (true≢false (sym h))),
      (λ k.
          absurd
          (true≢false (sym (kept.1 (paired_weaker IsWithin KeepsTops c.args.narrow.now c.args.wide.now within_keeps k))
          ∙ c.if-not-branch.true))),
    )
