use Rattle.std.proofs.Common.{refl}
use Rattle.ta_core.specs.Auto.{automaton}
use Rattle.ta_reduce.proofs.Fewer.{left_ranked}
use Rattle.ta_reduce.proofs.Tight.{match_same}
use Rattle.ta_reduce.proofs.dropping.without_needless.Goals as goal

pub needed_rules-requires-clause-same : goal.needed_rules-requires-clause-same
needed_rules-requires-clause-same c =
    let greatest = rw (← c.auto.view_is) at c.requires.greatest in
    rw c.as_slice.ensures
    (match_same (automaton c.auto.inside.states c.auto.inside.roots c.auto.inside.rules) c.args.relation.now
    c.auto.invariant greatest)

pub invariant_of-result : goal.invariant_of-result
invariant_of-result c =
    let greatest = rw (← c.auto.view_is) at c.requires.greatest in
    let needed = rw c.as_slice.ensures at c.in_ok-rules.ensures in
    rw c.in_ok-roots.ensures
    (left_ranked (automaton c.auto.inside.states c.auto.inside.roots c.auto.inside.rules) c.args.relation.now
    c.in_ok-rules.rules c.auto.invariant greatest needed)

pub returns : goal.returns
returns c =
    let needed = rw c.as_slice.ensures at c.in_ok-rules.ensures in
    rw (← c.auto.view_is, c.in_ok-roots.ensures) (c.in_ok-rules.rules, refl, needed)
