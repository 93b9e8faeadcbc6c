use Rattle.ta_classes.specs.Classes.{AreClasses}
use Rattle.ta_classes.proofs.classes.classes_of.Given as goal

abbrev pub invariant-loop-number : goal.invariant-loop-number
invariant-loop-number g l = AreClasses (g.L.Likeness.alike l.likeness) l.number l.made.numbers l.made.firsts
