use Rattle.std.proofs.Common.{◌∙◌, sym, true≢false}
use Rattle.fore_base.proofs.ListLemmas.{paired_long}
use Rattle.fa_kept.specs.Memos.{IsWithinAt}
use Rattle.fa_kept.proofs.Reading.{looks_known}
use Rattle.fa_kept.proofs.within.known_cover.Goals as goal

pub returns-then-look_alike : goal.returns-then-look_alike
returns-then-look_alike c = λ pool agrees wide narrow.
    let known = rw (c.as_slice.ensures, c.as_slice-then-look_alike.ensures) at c.are_known.ensures in
    looks_known pool c.args.wide.now c.args.narrow.now c.are_known.result (c.look_alike.ensures.0 c.if-look_alike.true)
    (known pool agrees narrow)

pub returns-else-look_alike : goal.returns-else-look_alike
returns-else-look_alike c = λ pool agrees wide narrow. (
  (λ h. absurd (true≢false (sym h))),
  (λ k.
      absurd
      (true≢false (sym (c.look_alike.ensures.1 (
        k.vars,
        k.data_vars,
        paired_long (IsWithinAt pool) c.args.narrow.now.parts c.args.wide.now.parts k.within,
      ))
      ∙ c.if-look_alike.false))),
)
