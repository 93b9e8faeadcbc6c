use Rattle.std.proofs.Common.{sym, ◌∙◌}
use Rattle.fore_base.proofs.ListLemmas.{number_in, in_number}
use Rattle.fa_cover.proofs.tops.has_root.Goals as goal

pub returns : goal.returns
returns c =
    let v = rw c.as_slice.ensures at c.contains.ensures.value in
    rw (← c.auto.view_is) (
      (λ h. number_in c.args.state c.auto.inside.roots (sym v ∙ h)),
      (λ i. v ∙ in_number c.args.state c.auto.inside.roots i),
    )
