use Rattle.fa_height.specs.inner.Agreeing.{AreAlike}
use Rattle.fa_height.proofs.Agreements.{alike_equivalence}
use Rattle.ta_classes.proofs.Classing.{one_class}
use Rattle.fa_height.proofs.agreeing.refined.Goals as goal

pub classes_of-requires : goal.classes_of-requires
classes_of-requires c = alike_equivalence c.args.classes.now c.args.rules.now c.args.states

pub returns : goal.returns
returns c = λ p q l m. one_class (AreAlike c.args.rules.now c.args.classes.now) c.args.states c.in_ok-made.made.numbers
    c.in_ok-made.made.firsts c.in_ok-made.ensures c.args.states
    (alike_equivalence c.args.classes.now c.args.rules.now c.args.states) p q l m
