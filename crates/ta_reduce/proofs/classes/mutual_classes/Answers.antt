use Rattle.std.proofs.Common.{sym, subst}
use Rattle.ta_classes.specs.Classes.{IsEquivalence}
use Rattle.ta_sim.specs.Relations.{Table}
use Rattle.ta_reduce.specs.inner.Reduction.{AreMutual}
use Rattle.ta_reduce.proofs.Classed.{mutual_equivalence}
use Rattle.ta_reduce.proofs.classes.mutual_classes.Goals as goal

pub classes_of-requires : goal.classes_of-requires
classes_of-requires c =
    subst (λ (t : Table). IsEquivalence t.size (AreMutual c.args.relation.now)) (sym c.relation.view_is)
    (mutual_equivalence c.args.relation.now c.requires)
