use Rattle.ta_reduce.proofs.Deterministic.{deterministic_reduced}
use Rattle.ta_reduce.proofs.Steps.{preserved_same, tight_trimmed}
use Rattle.ta_reduce.proofs.Tight.{greatest_from, greatest_preorder}
use Rattle.ta_reduce.proofs.reducing.reduced.Goals as goal

pub tightened-requires-clause-greatest : goal.tightened-requires-clause-greatest
tightened-requires-clause-greatest g c =
    greatest_from c.args.auto c.in_ok-relation.relation c.in_ok-relation.ensures.size
    c.in_ok-relation.ensures.simulation c.in_ok-relation.ensures.greatest

pub tightened-requires-clause-preorder : goal.tightened-requires-clause-preorder
tightened-requires-clause-preorder g c =
    greatest_preorder c.args.auto c.in_ok-relation.relation c.known.ensures
    (greatest_from c.args.auto c.in_ok-relation.relation c.in_ok-relation.ensures.size
    c.in_ok-relation.ensures.simulation c.in_ok-relation.ensures.greatest) c.known-2.ensures

pub returns-then-is_deterministic : goal.returns-then-is_deterministic
returns-then-is_deterministic g c =
    preserved_same c.args.auto
    (deterministic_reduced c.args.auto c.known.ensures c.requires.trim
    (c.is_deterministic.ensures.0 c.if-is_deterministic.true))

pub returns : goal.returns
returns g c =
    let t = c.in_ok-made.ensures in
    tight_trimmed c.args.auto c.in_ok-tight.tight c.in_ok-made.made c.requires.trim c.in_ok-tight.ensures.0
    c.in_ok-tight.ensures.1 c.known-3.ensures t.language t.trim t.parts c.known-4.ensures
