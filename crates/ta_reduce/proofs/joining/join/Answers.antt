use Rattle.ta_reduce.proofs.Joined.{numbers_low}
use Rattle.ta_reduce.proofs.joining.join.Goals as goal

pub renumber-requires-clause-low : goal.renumber-requires-clause-low
renumber-requires-clause-low c =
    rw (c.as_slice-2.ensures, c.number_of-states.ensures, c.as_slice.ensures)
    (numbers_low c.args._relation.now c.args.auto.now.states c.args.classes.now.numbers c.args.classes.now.firsts
    c.requires)
