use Rattle.std.proofs.Common.{◌∙◌, ap, sym}
use Rattle.std.specs.Option.{option_copied}
use Rattle.fa_groups.specs.Grouped.{numbers_if}
use Rattle.fa_groups.proofs.groups.numbers_of.Goals as goal

pub returns-in-Some : goal.returns-in-Some
returns-in-Some c =
    c.as_slice.ensures
    ∙ sym (ap numbers_if (sym c.get.ensures.value ∙ ap (λ z. option_copied z) c.in-Some.is))

pub returns-in-None : goal.returns-in-None
returns-in-None c = sym (ap numbers_if (sym c.get.ensures.value ∙ ap (λ z. option_copied z) c.in-None.is))
