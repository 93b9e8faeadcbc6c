use Rattle.std.proofs.Common.{◌∙◌, sym}
use Rattle.fa_opening.proofs.fields.SplitStep.apply.Goals as goal

pub component-requires : goal.component-requires
component-requires c = rw c.forest.ensures c.requires.bared.root

pub place_of-requires : goal.place_of-requires
place_of-requires c = rw (c.component.ensures, c.forest.ensures) c.requires.bared.top

pub split_at-requires-clause-place : goal.split_at-requires-clause-place
split_at-requires-clause-place c =
    let e = rw (c.component.ensures, c.forest.ensures) at c.place_of.ensures in
    sym e ∙ c.in-Some.is

pub stay-requires-clause-none : goal.stay-requires-clause-none
stay-requires-clause-none c =
    let e = rw (c.component.ensures, c.forest.ensures) at c.place_of.ensures in
    sym e ∙ c.in-None.is
