use Rattle.ta_core.proofs.Imaged.{image_proper}
use Rattle.ta_core.proofs.renumbering.renumber.Goals as goal

pub invariant_of-result : goal.invariant_of-result
invariant_of-result c =
    let long = rw (← c.auto.view_is) at c.requires.long in
    rw (c.in_ok-roots.ensures, c.in_ok-rules.ensures, c.as_slice.ensures, c.as_slice-2.ensures)
    (image_proper c.args.numbers.now c.args.states
    (record { states = c.auto.inside.states; roots = c.auto.inside.roots; rules = c.auto.inside.rules }) long
    c.requires.low c.auto.invariant)
