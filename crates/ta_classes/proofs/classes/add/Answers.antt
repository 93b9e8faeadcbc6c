use Rattle.ta_classes.proofs.Classing.{class_begun}
use Rattle.ta_classes.proofs.classes.add.Goals as goal

pub returns-in_ok-begin-in-None : goal.returns-in_ok-begin-in-None
returns-in_ok-begin-in-None g c =
    let none = rw c.as_slice.ensures at c.in-None.ensures in
    rw (c.in_ok-begin-in-None.ensures.numbers, c.in_ok-begin-in-None.ensures.firsts)
    (class_begun (g.L.Likeness.alike c.args.likeness.now) c.args.number c.args.made.now.numbers c.args.made.now.firsts
    c.requires.before c.args._count c.requires.equivalence c.requires.within none)
